-- Shrinking a list, putting back, and the walk with both.
pub mod Rules
pub mod Back
pub mod Shrunk
pub mod Steps
