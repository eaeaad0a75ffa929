pub mod Reach
pub mod Columns
pub mod Permitted
pub mod PatternLaws
pub mod Spots
pub mod Fold
pub mod Alike
pub mod EdgeLaws
pub mod Writes
pub mod Marks
pub mod EdgeMembers
pub mod Lengths
pub mod ReadBack
pub mod ReadSound
pub mod Lines
pub mod Widths
pub mod Calls
mod Examples
mod ColumnExamples
pub mod Unique
