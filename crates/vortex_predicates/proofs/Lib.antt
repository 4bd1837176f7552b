mod Beyond
mod CompleteRows
mod Decided
mod EqualBounds
mod Full
mod Indexes
mod JointRight
mod JointTrue
mod NullChoices
mod NullFound
mod NullRows
mod NullTests
mod OpenSides
mod RightProofs
mod Rows
pub mod BuiltIn
pub mod Carried
pub mod Conditions
pub mod Footers
pub mod Found
pub mod LawWitnesses
pub mod OneSidedWitnesses
pub mod PredicateWitnesses
pub mod RowGroups
