-- Patterns of LIKE.
pub mod Chance
pub mod Like
pub mod LikeSearch
pub mod Piece
pub mod Prefix
pub mod Substring
