-- The laws: why a round's bound is one, of the rounds, of tests with one number more, of H in words, of a round in words.
pub mod Recolouring
pub mod RoundLaws
pub mod DoneLaws
pub mod SetLoops
pub mod EdgeLoops
pub mod FitLoops
pub mod WitnessLoops
mod FirstLoops
pub mod RoundLoops
pub mod ClimbLaws
