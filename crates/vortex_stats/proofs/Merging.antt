-- On merges and combinations.
pub mod CombinedChanges
pub mod Combining
pub mod Constants
pub mod Counts
pub mod Extremes
pub mod Groupings
pub mod MergedFits
pub mod Sums
