-- What the functions promise: who goes.
pub mod Words
