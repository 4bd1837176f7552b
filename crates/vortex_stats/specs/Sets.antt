-- Sets of statistics, what they claim and how they are read.
pub mod Bitset
pub mod Changes
pub mod Claims
pub mod Entries
pub mod MutTypedStats
pub mod Reading
pub mod Slots
pub mod TypedStats
