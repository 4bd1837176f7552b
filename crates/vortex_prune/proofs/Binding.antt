-- On bound expressions.
pub mod BoundTypes
pub mod BoundValues
pub mod ProofLemmas
