-- Proofs of pruning row groups by a predicate.
pub mod ZoneLoop
pub mod Sound
pub mod Witnesses
