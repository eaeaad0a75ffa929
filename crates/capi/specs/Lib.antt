-- What a call from C promises.
pub mod Calls
