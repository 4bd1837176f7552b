-- The proofs of rules are right.
pub mod EndsCode
pub mod LikeRows
pub mod MovedEnds
pub mod NodeProofs
pub mod NumberEnds
pub mod PatternProofs
pub mod RowFacts
pub mod RowRules
pub mod RowSatisfiers
pub mod RuleFacts
pub mod SoundRules
pub mod TruthLogic
pub mod ValueTests
