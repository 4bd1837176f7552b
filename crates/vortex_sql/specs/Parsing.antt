-- How a text is read as a condition: places, names, and what AND joins.
pub mod Joining
pub mod Naming
pub mod Places
pub mod Reading
pub mod Refusals
pub mod Worked
