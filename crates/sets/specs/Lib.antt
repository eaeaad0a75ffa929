-- Lists and tests over numbers, and numbers as sets.
pub mod Lists
pub mod Set
