-- Merges and combinations of sets.
pub mod CombineSteps
pub mod Combined
pub mod MergeRows
pub mod Merges
