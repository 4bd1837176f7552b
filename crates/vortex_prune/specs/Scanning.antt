-- What a scan selects, skips and refuses.
pub mod Complete
pub mod Found
pub mod Gaps
pub mod Keys
pub mod Leaves
pub mod Likes
pub mod Marks
pub mod PartScans
pub mod Promises
pub mod RangeScans
pub mod ScanRefusals
pub mod SelectedRows
pub mod Selection
pub mod TrueRows
pub mod ZoneScans
