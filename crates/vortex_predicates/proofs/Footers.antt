-- Proofs of pruning row groups and pages by a condition in SQL.
pub mod Choices
pub mod FooterWitnesses
pub mod MentionLoop
pub mod Names
pub mod PageGroups
pub mod PageSound
pub mod PageWitness
pub mod RangeLoops
pub mod Slices
pub mod Sound
pub mod Refusing
mod ChoiceRows
mod VerdictRows
