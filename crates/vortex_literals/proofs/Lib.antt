pub mod FirstDay
pub mod Capping
pub mod Moving
pub mod WorkedRows
