-- Worked rows, found by computation alone, and witnesses.
pub mod ChosenRows
pub mod JoinRows
pub mod LogRows
pub mod Maps
pub mod StatRows
pub mod TableRows
pub mod Witnesses
