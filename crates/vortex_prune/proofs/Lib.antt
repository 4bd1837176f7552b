pub mod Binding
pub mod Chosen
pub mod Honesty
pub mod Scanning
pub mod WorkedRows
pub mod ZoneMaps
