-- Worked rows, found by computation alone.
pub mod BadRows
pub mod BlockRows
pub mod FirstRows
pub mod LimitRows
pub mod MemoryRows
pub mod StoreRows
pub mod StreamRows
pub mod TextRows
pub mod Witnesses
