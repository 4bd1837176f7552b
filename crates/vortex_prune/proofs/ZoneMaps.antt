-- On tables of zones.
pub mod TrueRows
pub mod ZoneKept
pub mod ZoneMarks
pub mod ZonePruned
pub mod ZoneRefusals
pub mod ZoneRows
pub mod ZoneScan
pub mod ZoneVerdicts
