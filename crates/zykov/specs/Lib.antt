-- The Zykov tree, and the walks over it.
pub mod Tree
pub mod Walk
pub mod Bound
pub mod Budget
