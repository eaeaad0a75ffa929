-- The laws of the two bounds, of the bounds at a held node, and of the answers on a lent matrix.
pub mod BoundLaws
pub mod LentLaws
mod NodeLaws
