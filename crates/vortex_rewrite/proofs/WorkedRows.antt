-- Worked rows, found by computation alone.
pub mod CauseRows
pub mod EndsRows
pub mod FactRows
pub mod HonestRows
pub mod OverRows
pub mod ReadOnceRows
pub mod RewritingRows
pub mod SatisfierRows
pub mod VisitRows
