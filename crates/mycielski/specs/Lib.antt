-- The Mycielskian bound of a node, and the part H in words.
pub mod Rounds
pub mod Words
