-- Expressions whose chains are joined in halves, and how they are read.
pub mod Errors
pub mod Halves
pub mod Laws
pub mod Nodes
pub mod Reads
pub mod Texts
