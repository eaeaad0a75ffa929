pub mod Text
pub mod Part
pub mod Number
pub mod Words
pub mod Numeral
pub mod Reader
