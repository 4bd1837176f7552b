-- Worked rows as data.
pub mod ExpressionExamples
