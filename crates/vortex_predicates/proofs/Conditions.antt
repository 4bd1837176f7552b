-- Proofs of pruning by a condition in SQL.
pub mod Parts
pub mod Pruned
pub mod Witnesses
