-- The two bounds by name, and what is answered of a lent matrix.
pub mod Names
pub mod Lent
