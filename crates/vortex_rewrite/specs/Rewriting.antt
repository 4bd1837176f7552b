-- Rules, and the proofs that they have for predicates.
pub mod BuiltIn
pub mod BuiltInRules
pub mod Falsifiers
pub mod Lawful
pub mod Own
pub mod Predicates
pub mod Proof
pub mod ReadOnce
pub mod RuleRefusals
pub mod Sides
pub mod Visited
