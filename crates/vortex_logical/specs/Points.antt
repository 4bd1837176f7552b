-- Where a number lies among the multiples of another.
use Rattle.std.specs.Prelude.{◌≡◌, ℕ, ◌-◌, ◌*◌, ◌^◌, Bool, ◌&&◌, ℤ, pos, negsuc, neg_ℤ, ◌*ℤ◌, ◌+ℤ◌, ◌<ℤ◌, ◌≤ℤ◌, ◌<◌, int_le, int_lt, nat_le, if◌then◌else◌}
use Rattle.std.specs.Int.{int_div_euclid, int_rem_euclid}
use Rattle.std.specs.Ordering.{int_cmp, int_eq}
use Rattle.std.specs.declared.cmp.Ordering.{Ordering}
use Rattle.std.specs.declared.cmp.Ordering.TheVariants.{Less, Greater}
use Rattle.vortex_logical.specs.declared.exact.Exact.{Exact}
use Rattle.vortex_logical.specs.declared.exact.Step.{Step}
use Rattle.vortex_logical.specs.declared.point.Point.{Point}
use Rattle.vortex_logical.specs.declared.point.Point.TheVariants.{Whole, Between}
use Rattle.vortex_logical.specs.Meaning.{fraction_cmp, fraction_of, steps}

-- how a whole number compares with a point
abbrev pub point_cmp : ℤ → Point → Ordering
point_cmp n (Whole q) = int_cmp n q
point_cmp n (Between q) = if int_le n q then Less else Greater

-- where b / a lies among the whole numbers, for an a above 0
abbrev pub point_of : ℤ → ℤ → Point
point_of b a = if int_eq (int_rem_euclid b a) (pos 0) then Whole (int_div_euclid b a) else Between (int_div_euclid b a)

-- z lies strictly between -(2 ^ 127) and 2 ^ 127
abbrev pub IsShort : ℤ → Type 0
IsShort z = (neg_ℤ (pos (2 ^ 127)) <ℤ z) × (z <ℤ pos (2 ^ 127))

-- The number is at that point among the cells of the column: each cell, if it is no longer than 128 bits, compares with the number as its whole number with the point.
abbrev pub IsPlace : Step → Exact → Point → Type 0
IsPlace s x p = (n : ℤ) → IsShort (n *ℤ pos s.each) → fraction_cmp (steps s n) (fraction_of x) ≡ point_cmp n p

-- z has at most 128 bits with its sign
abbrev pub has_128_bits : ℤ → Bool
has_128_bits z = int_le (negsuc (2 ^ 127 - 1)) z && int_le z (pos (2 ^ 127 - 1))

-- where a number with the sign of top that is z / each lies; past 128 bits it is above or below all cells
abbrev pub scaled_point : (top z : ℤ) (each : ℕ) → Point
scaled_point top z each = if has_128_bits z then point_of z (pos each) else (if int_lt top (pos 0) then Between (negsuc (2 ^ 127 - 1)) else Between (pos (2 ^ 127 - 1)))

-- where a number, divided by ten to the scale, lies among the cells of a column with these steps
abbrev pub place_of : Step → (top : ℤ) → (scale : ℕ) → Point
place_of s top scale =
    if nat_le s.scale scale then point_of top (pos (10 ^ (scale - s.scale) * s.each))
    else scaled_point top (top *ℤ pos (10 ^ (s.scale - scale))) s.each

-- numbers cut down to a coarser unit of k keep their order
abbrev pub CutsKeepOrder : Type 0
CutsKeepOrder = (v b : ℤ) (k : ℕ) → 0 < k → v ≤ℤ b → int_div_euclid v (pos k) ≤ℤ int_div_euclid b (pos k)

-- where b is the greatest and only its cut is told, one unit more is above all
abbrev pub CutGreatestIsRaised : Type 0
CutGreatestIsRaised = (v b : ℤ) (k : ℕ) → 0 < k → v ≤ℤ b → v <ℤ ((int_div_euclid b (pos k) +ℤ pos 1) *ℤ pos k)
