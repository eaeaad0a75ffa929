-- The theorems. Read Demands.antt first.
pub mod Places
pub mod Sizes
pub mod RuleLaws
pub mod BackLaws
pub mod Alike
pub mod Whole
pub mod OneRule
pub mod Demands
pub mod Agree
pub mod Examples
