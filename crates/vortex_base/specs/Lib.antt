-- The definitions that the contracts cite.
pub mod Answer
pub mod Data
pub mod Made
pub mod Reading
pub mod Worked
