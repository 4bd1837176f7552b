-- The whole numbers that stand in the bytes of decimals.
use Rattle.std.specs.Prelude.{ℕ, ◌^◌, ◌-◌, ℤ, pos, negsuc, ◌+ℤ◌, ◌*ℤ◌, int_le, ◌&&◌, List, [], ◌∷◌, Option, Some, None, if◌then◌else◌}
use Rattle.std.specs.Int.{w8, cast_signed}

-- a number with so many bytes behind it, of which the highest comes first
abbrev pub with_bytes : ℤ → List ℕ → ℤ
with_bytes n [] = n
with_bytes n (b ∷ bytes) = with_bytes ((n *ℤ pos 256) +ℤ pos b) bytes

-- a number, if it is one of 64 bits with a sign
abbrev pub in_64_bits : ℤ → Option ℤ
in_64_bits n = if int_le (negsuc (2 ^ 63 - 1)) n && int_le n (pos (2 ^ 63 - 1)) then Some n else None

-- two's complement, whose first byte has the sign: 255 stands for -1. No bytes are no number
unfoldable pub number_of : List ℕ → Option ℤ
number_of [] = None
number_of (b ∷ bytes) = in_64_bits (with_bytes (cast_signed w8 b) bytes)
