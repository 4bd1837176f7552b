pub mod CellKeys
pub mod Saying
pub mod WorkedRows
