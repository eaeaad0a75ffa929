-- Each promise leaves one answer; what a walk answers, written and checked, is accepted; and what both readings of a clash text answer alike.
pub mod Unique
-- the two engines agree
pub mod Engines
pub mod OwnList
pub mod Readings
