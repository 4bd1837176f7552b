-- What expressions mean, and their types.
pub mod Binding
pub mod Fitting
pub mod Meaning
pub mod RowTest
pub mod Typing
