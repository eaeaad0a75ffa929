-- What the walk's promise of the shrunk rows comes to for the full ones; and the demands.
pub mod RowLaws
pub mod CallLaws
pub mod Demands
