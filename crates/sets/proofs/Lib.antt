-- The laws: of tests, of lists, of the members of a test, of sets, and of a shifted one.
pub mod TestLaws
pub mod ListLaws
pub mod MemberLaws
pub mod SetLaws
mod Shift
