-- What is changed in place and changed back.
pub mod Back
pub mod Forest
