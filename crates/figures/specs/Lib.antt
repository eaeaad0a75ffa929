-- Document 01's figures.
pub mod Table
