-- Worked rows, found by computation alone.
pub mod ChunkRows
pub mod FormRows
pub mod NumberRows
pub mod TypeRows
