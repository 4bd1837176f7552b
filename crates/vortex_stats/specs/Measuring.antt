-- Statistics that are made from the values of a column.
pub mod Checks
pub mod Codes
pub mod Keys
pub mod Measured
pub mod Measures
pub mod Tallies
pub mod Told
