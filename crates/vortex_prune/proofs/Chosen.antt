-- On chosen columns.
pub mod ChosenColumns
