-- On statistics that are made from the values of a column.
pub mod CheckLemmas
pub mod MeasureLemmas
pub mod MeasuredRows
pub mod MeasuredSets
pub mod MeasuredTruth
pub mod Passes
pub mod Runs
