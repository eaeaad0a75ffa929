-- What the functions promise: the shrunk list's rows; putting back.
pub mod Rows
pub mod Seats
