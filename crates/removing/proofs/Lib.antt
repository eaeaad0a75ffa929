-- Laws of the loops: who shares clashes, who goes next, how a list is shrunk.
pub mod ShareLaws
pub mod LookLaws
pub mod ShrinkLaws
