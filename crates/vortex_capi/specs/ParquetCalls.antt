-- What the calls that prune the row groups and pages of a Parquet file answer and refuse.
pub mod DataPages
pub mod FooterPrunes
pub mod IndexBegins
pub mod PagePrunes
pub mod Refusals
