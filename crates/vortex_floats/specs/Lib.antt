pub mod Cells
pub mod Nearest
pub mod Worked
