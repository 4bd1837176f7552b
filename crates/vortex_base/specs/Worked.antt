-- Worked rows as data.
pub mod Examples
pub mod KeptExamples
