-- Laws of what is changed in place and changed back: rows of a set, merged and separated rows, the trail; names as a forest, and its groups.
pub mod LinkLaws
pub mod BackLaws
pub mod TrailLaws
pub mod ForestLaws
pub mod ColourLaws
