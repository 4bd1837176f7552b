pub mod Dates
pub mod Floats
pub mod Clocks
pub mod Numbers
pub mod Intervals
pub mod Worked
