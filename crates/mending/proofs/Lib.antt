pub mod HeldLaws
pub mod Turns
pub mod Placing
pub mod Ordering
pub mod Reports
pub mod Dropped
pub mod Answers
