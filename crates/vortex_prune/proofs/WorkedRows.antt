-- Worked rows, found by computation alone.
pub mod AskingRows
pub mod CauseRows
pub mod CompleteRows
pub mod GapRows
pub mod HonestRows
pub mod LeafRows
pub mod LikeShapeRows
pub mod MarkRows
pub mod MeasuredRows
pub mod PartRows
pub mod PremiseRows
pub mod RangeRows
pub mod ShutRows
pub mod TrueRows
pub mod WholeRows
pub mod Witnesses
pub mod ZoneTableRows
