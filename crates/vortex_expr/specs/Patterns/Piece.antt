-- Words for a pattern's first piece, the items before its first run.
use Rattle.std.specs.Prelude.{◌≡◌, ℕ, ◌<◌, true, List, length}
use Rattle.vortex_expr.specs.declared.like.Item.{Item}
use Rattle.vortex_expr.specs.declared.like.piece.Piece.{Piece}
use Rattle.vortex_expr.specs.declared.like.piece.Piece.TheVariants.{Letters, WithAnyChar, Last, TooLong}
use Rattle.vortex_expr.specs.Patterns.Like.{like}
use Rattle.vortex_expr.specs.Patterns.Prefix.{literal_prefix}

-- what a piece tells of the texts that the items match, beside this text
abbrev pub IsPieceOf : List Item → List ℕ → Piece → Type 0
IsPieceOf is cs (Letters n) = n ≡ length (literal_prefix is)
IsPieceOf is cs WithAnyChar = Unit {0}
IsPieceOf is cs (Last n) = (ds : List ℕ) → like is ds ≡ true → length ds ≡ n
IsPieceOf is cs TooLong = (ds : List ℕ) → like is ds ≡ true → length cs < length ds
