-- The definitions that the contracts cite.
pub mod Answer
pub mod Meanings
pub mod Patterns
pub mod Trees
pub mod Worked
