pub mod Completeness
pub mod Logic
pub mod NullErasure
pub mod Rewriting
pub mod Soundness
pub mod WorkedRows
