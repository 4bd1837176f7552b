-- Falsifiers of read-once predicates miss nothing.
pub mod Apart
pub mod Choices
pub mod Decided
pub mod Interval
pub mod Operands
pub mod Ranges
