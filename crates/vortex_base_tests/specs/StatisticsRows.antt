-- What callers of statistics compute.
pub mod Writing
