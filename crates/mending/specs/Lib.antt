pub mod Rows
pub mod Groups
pub mod Held
pub mod Places
pub mod Calls
