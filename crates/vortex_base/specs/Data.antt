-- Types, values, columns and scopes.
pub mod VarBinArray
pub mod ArrayData
pub mod Columns
pub mod Exact
pub mod Names
pub mod PrimitiveArray
pub mod Neighbours
pub mod Orders
pub mod Repeated
pub mod Scalars
pub mod Scopes
pub mod States
pub mod Utf8Array
pub mod Types
pub mod Values
