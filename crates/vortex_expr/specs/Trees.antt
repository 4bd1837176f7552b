-- Expressions as trees.
pub mod Between
pub mod Connectives
pub mod NamedNode
pub mod NamedNodeFalls
pub mod Node
pub mod NodeFalls
pub mod Parts
pub mod ScalarFns
pub mod Tree
pub mod TreeCode
pub mod TreeEq
