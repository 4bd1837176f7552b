-- On bounds and their order.
pub mod Ascending
pub mod DerivedOrder
pub mod Tightness
pub mod ValueOrder
