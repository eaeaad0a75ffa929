-- The laws of the walks' turns; and of what a walk tells out of budget.
mod Turns
mod Splits
mod Compare
mod Undoing
mod Rounds
mod Starting
pub mod Telling
