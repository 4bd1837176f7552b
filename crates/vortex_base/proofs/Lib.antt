-- Lemmas, and worked rows of the definitions.
pub mod Data
pub mod WorkedRows
