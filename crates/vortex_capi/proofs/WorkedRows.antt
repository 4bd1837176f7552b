-- Worked rows, found by computation alone.
pub mod ArrowRows
pub mod CallRows
pub mod CallWitnesses
pub mod TableRows
pub mod CellRows
pub mod NamedRows
pub mod LengthRows
pub mod TogetherRows
pub mod Witnesses
pub mod NumberRows
pub mod LogicalRows
