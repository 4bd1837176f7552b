-- On how proofs are made.
pub mod AskedNodes
pub mod BuiltInOrder
pub mod CauseLemmas
pub mod JoinRounds
pub mod OverParts
pub mod ProofTypes
pub mod RuleBoxes
pub mod ShutProofs
