-- Row groups as zones, and what pruning them by a predicate says.
pub mod Pruning
