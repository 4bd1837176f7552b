-- Bounds and their order.
pub mod Bound
pub mod LowerBound
pub mod Order
pub mod PointBound
pub mod Tightest
pub mod UpperBound
