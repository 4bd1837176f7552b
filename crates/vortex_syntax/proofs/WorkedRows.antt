-- Worked rows, found by computation alone.
pub mod NameRows
pub mod NumberRows
pub mod PlainRows
pub mod PlainStatisticRows
pub mod ValueRows
pub mod WordRows
