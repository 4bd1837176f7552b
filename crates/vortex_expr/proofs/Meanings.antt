-- On what expressions mean, and their types.
pub mod MeaningFits
pub mod MeaningTyped
pub mod PlacedFits
pub mod PlacedTypes
pub mod RowsFit
