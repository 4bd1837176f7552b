-- Whole numbers in decimal digits, and bytes in hexadecimal ones.
use Rattle.std.specs.Prelude.{ℕ, ◌+◌, ◌-◌, ◌*◌, ◌^◌, ℤ, pos, neg_ℤ, int_le, unsigned_abs, Bool, ◌&&◌, ◌==◌, nat_lt, if◌then◌else◌, List, [], ◌∷◌, length, drop, Option, Some, None, option_and_then, option_map, slice_index}
use Rattle.std.specs.Char.{is_ascii_digit, is_ascii_hexdigit, digit_value}
use Rattle.std.specs.Str.{all_ascii_digits}
use Rattle.std.specs.Str.Parse.{digits_value}
use Rattle.vortex_base.specs.Data.States.{is_signed}
use Rattle.vortex_base.specs.Data.Values.{least, greatest}
use Rattle.vortex_base.specs.declared.types.PType.{PType}
use Rattle.vortex_base.specs.declared.types.PType.TheVariants as ptype
use Rattle.vortex_base.specs.declared.pvalue.PValue.{PValue}
use Rattle.vortex_base.specs.declared.pvalue.PValue.TheVariants as number

-- the number that one decimal digit or more write
abbrev pub natural_of : List ℕ → Option ℕ
natural_of digits = if all_ascii_digits digits && nat_lt 0 (length digits) then Some (digits_value 10 digits) else None

-- the number below zero, or zero, whose digits behind the minus these are
abbrev pub negative_of : List ℕ → Option ℤ
negative_of digits = option_map (λ n. neg_ℤ (pos n)) (natural_of digits)

-- a whole number, behind a minus where it is below zero, if that may stand there
abbrev pub whole_of : (signed : Bool) → List ℕ → Option ℤ
whole_of signed word =
    if signed && (slice_index word 0 == 45) then negative_of (drop 1 word) else option_map (λ n. pos n) (natural_of word)

-- the number of the type that z is, where the type has it
abbrev pub sized : PType → (z : ℤ) → PValue
sized ptype.U8 z = number.U8 (unsigned_abs z)
sized ptype.U16 z = number.U16 (unsigned_abs z)
sized ptype.U32 z = number.U32 (unsigned_abs z)
sized ptype.U64 z = number.U64 (unsigned_abs z)
sized ptype.I8 z = number.I8 z
sized ptype.I16 z = number.I16 z
sized ptype.I32 z = number.I32 z
sized ptype.I64 z = number.I64 z

-- z as a number of the type, if it is in its range
abbrev pub in_type : PType → ℤ → Option PValue
in_type p z = if int_le (least p) z && int_le z (greatest p) then Some (sized p z) else None

-- the number of the type that a word writes
abbrev pub number_of : PType → List ℕ → Option PValue
number_of p word = option_and_then (in_type p) (whole_of (is_signed p) word)

-- the value of a hexadecimal digit of either case
abbrev pub hexadecimal_of : ℕ → Option ℕ
hexadecimal_of digit = if is_ascii_hexdigit digit then Some (digit_value digit) else None

-- the byte of two hexadecimal digits
abbrev pub byte_of : ℕ → ℕ → Option ℕ
byte_of high low = option_and_then (λ h. option_map (λ l. 16 * h + l) (hexadecimal_of low)) (hexadecimal_of high)

-- a byte in front of those of further digits
abbrev pub in_front : Option ℕ → Option (List ℕ) → Option (List ℕ)
in_front None bs = None
in_front (Some b) bs = option_map (λ more. b ∷ more) bs

-- the bytes that pairs of hexadecimal digits write
abbrev pub bytes_of : List ℕ → Option (List ℕ)
bytes_of [] = Some []
bytes_of (high ∷ []) = None
bytes_of (high ∷ low ∷ digits) = in_front (byte_of high low) (bytes_of digits)

-- a number that 64 bits hold
abbrev pub in_64_bits : ℕ → Option ℕ
in_64_bits n = if nat_lt n (2 ^ 64) then Some n else None

-- the number with one more digit, where that is a digit and 64 bits hold the number
abbrev pub with_digit : ℕ → ℕ → Option ℕ
with_digit n digit = if is_ascii_digit digit then in_64_bits (n * 10 + (digit - 48)) else None

-- a number that 64 bits hold, one of them for the sign
abbrev pub in_64_bits_signed : ℤ → Option ℤ
in_64_bits_signed z = if int_le (least ptype.I64) z && int_le z (greatest ptype.I64) then Some z else None
