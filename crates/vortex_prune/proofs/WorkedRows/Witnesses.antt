-- Witnesses: for each public clause with premises something that meets them all at once, and a turned answer of which the conclusion is false.
pub mod AnyTable
pub mod Binders
pub mod Laws
pub mod Parts
pub mod Pruning
pub mod Ranges
pub mod Scans
