-- The lemmas of this crate that proofs of other crates may cite; the other files are for this crate alone.
-- What is read of a set that fits its column fits the statistic.
pub use Rattle.vortex_stats.proofs.Sets.Fitting.{entry_value-fits}
-- A merge of sets that fit fits, and one of sets that are true of two columns is true of the appended column.
pub use Rattle.vortex_stats.proofs.Merging.MergedFits.{merged_ordered-fits}
pub use Rattle.vortex_stats.proofs.Truth.MergedTruth.{merged_ordered_is_true}
-- What is measured of a column is true of it.
pub use Rattle.vortex_stats.proofs.Measuring.MeasuredTruth.{measured_is_true}
-- What a list contains at its front and behind it.
pub use Rattle.vortex_stats.proofs.Bounds.Ascending.{contains_first, contains_later}
