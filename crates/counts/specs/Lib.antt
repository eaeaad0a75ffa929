-- Counts of rows, held as slices of bits, and the greatest of them.
pub mod Counts
pub mod Steps
