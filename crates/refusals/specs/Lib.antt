-- Document 01's table of refusals, and what a lent matrix and a search of it are refused by.
pub mod Table
pub mod Rows
