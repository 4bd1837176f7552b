-- Conditions in SQL with their proofs, and what pruning by them says.
pub mod ConditionCode
pub mod Conditions
pub mod Refusals
