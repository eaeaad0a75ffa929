-- The laws: of labels numbered by first use, of divisions, of colourings, of the lent matrix; and what is meant, tied together.
pub mod NumberLaws
pub mod DivisionLaws
pub mod ColouringLaws
pub mod OneSidedLaws
pub mod MatrixLaws
pub mod Meaning
