-- The figures hold.
pub mod Figures
