-- Worked rows, found by computation alone.
pub mod FaultRows
pub mod LikeRows
pub mod MeaningRows
pub mod PrefixRows
pub mod TreeRows
pub mod TypingRows
