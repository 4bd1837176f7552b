-- On sets of statistics and their slots.
pub mod Bits
pub mod Fitting
pub mod Lookups
pub mod Mapped
pub mod Places
pub mod Retained
pub mod Revisions
pub mod SlotLemmas
