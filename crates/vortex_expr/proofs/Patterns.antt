-- On patterns of LIKE.
pub mod AsciiLemmas
pub mod ChanceLemmas
pub mod LikeStops
pub mod PatternLemmas
pub mod PieceLemmas
pub mod SubstringLemmas
pub mod Successors
