-- Proofs of how a text is read as a condition.
pub mod Ascending
pub mod Joined
pub mod Named
pub mod WorkedRows
