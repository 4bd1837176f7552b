-- Worked rows, found by computation alone.
pub mod BoundRows
pub mod CopyRows
pub mod PrecisionRows
pub mod RefusalRows
pub mod StatRows
