-- Lemmas, and worked rows of the definitions.
pub mod Meanings
pub mod Patterns
pub mod WorkedRows
