-- The laws: of tests and pairs, of live vertices and the pair rule, of merging and separating, of what falls, of a node's groups; of loops
-- through a set; of the words that hold a node.
pub mod PairLaws
pub mod GraphLaws
pub mod SplitLaws
pub mod MeasureLaws
pub mod GroupingLaws
pub mod LoopLaws
pub mod HeldLaws
pub mod LeadLaws
pub mod PassingLaws
pub mod ChooseLaws
