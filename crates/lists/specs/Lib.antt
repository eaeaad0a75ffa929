pub mod Shape
pub mod Expect
pub mod Pattern
pub mod Read
pub mod Edges
pub mod Write
pub mod Promise
