-- Proofs of the program that explains.
pub mod Explained
