-- The clique of a node, and how it is grown in words.
pub mod Clique
pub mod Growth
