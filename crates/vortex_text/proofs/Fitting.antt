-- What a text names fits together: its rows, parts and lines.
pub mod LineFits
pub mod NamedFits
pub mod PartFits
pub mod RowFits
