-- Floats of 16 bits, IEEE 754's binary16: what their bits stand for, and the order of these values.
use Rattle.std.specs.Prelude.{ℕ, zero, suc, ◌+◌, ◌*◌, ◌/◌, ◌%◌, ◌^◌, Bool, true, false, ◌||◌, ◌==◌, nat_le, ℤ, pos, neg_ℤ, if◌then◌else◌}
use Rattle.std.specs.Ordering.{int_cmp}
use Rattle.std.specs.declared.cmp.Ordering.{Ordering}
use Rattle.std.specs.declared.cmp.Ordering.TheVariants.{Less, Equal, Greater}
use Rattle.vortex_logical.specs.declared.comparison.Comparison.{Comparison}
use Rattle.vortex_logical.specs.declared.comparison.Comparison.TheVariants as comparison
use Rattle.vortex_logical.specs.Meaning.{holds}

-- a number is its sign and its size in units of the least one above 0, which is 2 ^ -24
pub data Half : Type 0 where
  nan : Half
  infinite : Bool → Half
  finite : Bool → ℕ → Half

-- the size by the bits of the exponent and of the fraction; without an exponent the leading bit is 0
abbrev pub half_size : ℕ → ℕ → ℕ
half_size zero t = t
half_size (suc x) t = (1024 + t) * 2 ^ x

-- by the sign, the exponent and the fraction
abbrev pub half_by : Bool → ℕ → ℕ → Half
half_by s x t = if x == 31 then (if t == 0 then infinite s else nan) else finite s (half_size x t)

-- a bit of sign, five of exponent, ten of fraction
abbrev pub half_of : ℕ → Half
half_of b = half_by (nat_le 32_768 b) (b % 32_768 / 1024) (b % 32_768 % 1024)

abbrev pub signed : Bool → ℕ → ℤ
signed false a = pos a
signed true a = neg_ℤ (pos a)

-- NaN is equal to itself and above all other numbers, and -0 is +0
abbrev pub half_cmp : Half → Half → Ordering
half_cmp nan nan = Equal
half_cmp nan (infinite t) = Greater
half_cmp nan (finite t b) = Greater
half_cmp (infinite s) nan = Less
half_cmp (infinite s) (infinite t) = int_cmp (signed s 1) (signed t 1)
half_cmp (infinite s) (finite t b) = if s then Less else Greater
half_cmp (finite s a) nan = Less
half_cmp (finite s a) (infinite t) = if t then Greater else Less
half_cmp (finite s a) (finite t b) = int_cmp (signed s a) (signed t b)

abbrev pub is_nan_half : Half → Bool
is_nan_half nan = true
is_nan_half (infinite s) = false
is_nan_half (finite s a) = false

abbrev pub of_nan : Comparison → Bool
of_nan comparison.NotEq = true
of_nan c = false

-- of NaN only <> is true, and -0 is +0
abbrev pub half_ieee : Comparison → Half → Half → Bool
half_ieee c x y = if is_nan_half x || is_nan_half y then of_nan c else holds c (half_cmp x y)
