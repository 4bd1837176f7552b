-- The texts of decimal numbers without a sign, by std's numerals, and the numbers that they write.
use Rattle.std.specs.Prelude.{◌≡◌, ℕ, ◌*◌, ◌^◌, Bool, ◌&&◌, ◌==◌, nat_lt, nat_le, List, length, pos, Option, Some, None, if◌then◌else◌}
use Rattle.fast_float.specs.Text.{scan, has_digits, digits_of, tens_up, tens_down}
use Rattle.vortex_logical.specs.declared.exact.Exact.{Exact}
use Rattle.vortex_logical.specs.Meaning.{Fraction, fraction_of}
use Rattle.vortex_literals.specs.Dates.{over}

-- digits * 10 ^ up divided by 10 ^ down
abbrev pub scaled : ℕ → ℕ → ℕ → Fraction
scaled digits up down = over (pos (digits * 10 ^ up)) down

-- at most 33 digits behind the point, and above the line a number of 128 bits with a sign
abbrev pub is_short : ℕ → ℕ → ℕ → Bool
is_short digits up down = nat_le down 33 && nat_lt (digits * 10 ^ up) (2 ^ 127)

abbrev pub if_short : ℕ → ℕ → ℕ → Option Fraction
if_short digits up down = if is_short digits up down then Some (scaled digits up down) else None

-- the whole text is digits, perhaps with a point, and perhaps an exponent
abbrev pub is_numeral : List ℕ → Bool
is_numeral text = ((scan text).len == length text) && has_digits (scan text)

-- the number that a text writes, if it is short
abbrev pub number_of : List ℕ → Option Fraction
number_of text = if is_numeral text then if_short (digits_of (scan text)) (tens_up (scan text)) (tens_down (scan text)) else None

-- the text writes a number, which is x
abbrev pub IsNumber : List ℕ → Exact → Type 0
IsNumber text x = number_of text ≡ Some (fraction_of x)

abbrev pub IsNoNumber : List ℕ → Type 0
IsNoNumber text = number_of text ≡ None

-- r is that number, if there is one
abbrev pub IsRead : Option Fraction → Option Exact → Type 0
IsRead n None = n ≡ None
IsRead n (Some x) = n ≡ Some (fraction_of x)
