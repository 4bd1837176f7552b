pub mod MeasuredScans
pub mod NullCounts
