-- Each call from C leaves one answer.
pub mod Unique
