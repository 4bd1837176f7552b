-- Proofs of expressions whose chains are joined in halves.
pub mod Apart
pub mod Chains
pub mod Columns
pub mod Depths
pub mod Failures
pub mod Left
pub mod Meanings
pub mod Operands
pub mod Pairs
pub mod Shapes
pub mod Steps
pub mod Texts
pub mod Types
pub mod Values
pub mod Witnesses
pub mod WorkedRows
