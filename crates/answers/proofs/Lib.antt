-- What is printed: laws of the code's steps, and what follows from the calls' promises.
pub mod Laws
pub mod Calls
pub mod MendLaws
pub mod MendCalls
mod Examples
