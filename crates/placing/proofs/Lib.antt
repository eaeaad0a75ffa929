-- The laws of the search by placing.
pub mod Examples
pub mod OverLaws
pub mod CanonLaws
pub mod PlacingLaws
pub mod Steps
pub mod Best
pub mod Counts
pub mod Holding
pub mod Entering
pub mod Turns
pub mod PromiseLaws
pub mod Meets
pub mod Demands
