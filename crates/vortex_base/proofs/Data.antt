-- On values, columns and scopes.
pub mod AppendLemmas
pub mod BlobLemmas
pub mod CellLemmas
pub mod ChunkLemmas
pub mod MapLemmas
pub mod NameSets
pub mod NativeLemmas
pub mod OffsetLemmas
pub mod OrderLemmas
pub mod PushLemmas
pub mod RowLemmas
pub mod ScopeLemmas
pub mod TextLemmas
pub mod TextOrder
