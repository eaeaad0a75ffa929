-- Document 01's numbers of each answer; and what is promised of the second engine.
pub mod Numbers
pub mod Placing
