-- What of a line takes memory: a text between quotes is copied, and bytes are made of their digits.
use Rattle.std.specs.Prelude.{Bool, true, false, ◌==◌, ◌&&◌, ◌||◌, List, [], ◌∷◌, length, nat_lt, slice_index}
use Rattle.vortex_base.specs.declared.dtype.DType.{DType}
use Rattle.vortex_base.specs.declared.dtype.DType.TheVariants as dtype
use Rattle.vortex_syntax.specs.Words.{Token, Plain, Quoted, Broken}

-- a word is copied as it is read: one between quotes with a byte in it, or the front of one that is broken
abbrev pub is_copied : Token → Bool
is_copied (Plain w) = false
is_copied (Quoted []) = false
is_copied (Quoted (b ∷ bs)) = true
is_copied Broken = true

-- the first of the words is copied
abbrev pub first_is_copied : List Token → Bool
first_is_copied [] = false
first_is_copied (w ∷ ws) = is_copied w

-- bytes are made of a word that stands for a value of this type: an `x` and two digits or more
abbrev pub makes_bytes : DType → Token → Bool
makes_bytes (dtype.Binary n) (Plain w) = nat_lt 2 (length w) && (slice_index w 0 == 120)
makes_bytes t w = false

-- the value of a `stat` line takes memory, behind the word for its precision
abbrev pub claim_takes : DType → List Token → Bool
claim_takes t (Plain precision ∷ w ∷ ws) = is_copied w || makes_bytes t w
claim_takes t ws = false
