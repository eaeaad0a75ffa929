pub mod Basics
pub mod Lines
pub mod Numbers
pub mod Words
pub mod Writing
pub mod Back
pub mod Parts
pub mod Standing
