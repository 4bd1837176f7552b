-- Proofs of the call that prunes by a condition in SQL.
pub mod AnswerLemmas
mod WorkedRows
