-- Which calls keep true sets true.
pub mod ClaimRows
pub mod CombinedTruth
pub mod EntryClaims
pub mod KeptTruth
pub mod MergedTruth
pub mod UnorderedTruth
