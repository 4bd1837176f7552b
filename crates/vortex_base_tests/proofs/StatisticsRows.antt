-- Proofs of the callers of statistics, and rows that their definitions give.
pub mod AddedUp
pub mod ExactEntries
pub mod MergeRows
pub mod UnionRows
pub mod WritingLemmas
pub mod WritingRows
