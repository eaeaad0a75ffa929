-- The laws: of digits and rows that are counted, and of the greatest count.
pub mod CountLaws
pub mod LeastLaws
pub mod MostLaws
