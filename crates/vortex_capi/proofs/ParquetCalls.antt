-- Proofs of the calls that prune the row groups and pages of a Parquet file.
pub mod Answering
pub mod FooterWitnesses
pub mod PageAnswering
pub mod RangesTold
pub mod Refusing
pub mod IndexTold
pub mod Told
