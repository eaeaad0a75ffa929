-- What is meant: labels, colourings, divisions, the lent matrix, room for colours.
pub mod Labels
pub mod Colouring
pub mod Divisions
pub mod Matrix
pub mod Room
