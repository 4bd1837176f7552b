-- Floats in the order of their values, and the whole numbers in that order.
use Rattle.std.specs.Prelude.{◌≡◌, ℕ, zero, suc, ◌%◌, Bool, true, false, ◌&&◌, Option, Some, None, int_lt, ℤ, pos, negsuc, nat_lt, nat_le, if◌then◌else◌}
use Rattle.std.specs.Float.Ieee.{Float, binary32, binary64, of_bits, lt, le, eq, ne}
use Rattle.std.specs.Ordering.{nan_last_cmp, int_cmp}
use Rattle.std.specs.declared.cmp.Ordering.{Ordering}
use Rattle.vortex_logical.specs.declared.comparison.Comparison.{Comparison}
use Rattle.vortex_logical.specs.declared.comparison.Comparison.TheVariants as comparison
use Rattle.vortex_logical.specs.declared.float_type.FloatType.{FloatType}
use Rattle.vortex_logical.specs.declared.float_type.FloatType.TheVariants.{F16, F32, F64}
use Rattle.vortex_logical.specs.declared.float_test.NanMeaning.{NanMeaning}
use Rattle.vortex_logical.specs.declared.float_test.NanMeaning.TheVariants.{Greatest, Ieee}
use Rattle.vortex_logical.specs.declared.float_test.FloatTest.{FloatTest}
use Rattle.vortex_logical.specs.Halves.{half_of, half_cmp, half_ieee}
use Rattle.vortex_logical.specs.Meaning.{holds}
use Rattle.vortex_logical.specs.Lowering.{test_holds}

-- ---- the values

-- the order of two floats by their bits: NaN is equal to itself and above all other numbers, and -0 is +0
abbrev pub float_cmp : FloatType → ℕ → ℕ → Ordering
float_cmp F16 a b = half_cmp (half_of a) (half_of b)
float_cmp F32 a b = nan_last_cmp (of_bits binary32 a) (of_bits binary32 b)
float_cmp F64 a b = nan_last_cmp (of_bits binary64 a) (of_bits binary64 b)

-- of NaN only <> is true, and -0 is +0
abbrev pub ieee_holds : Comparison → Float → Float → Bool
ieee_holds comparison.Eq x y = eq x y
ieee_holds comparison.NotEq x y = ne x y
ieee_holds comparison.Gt x y = lt y x
ieee_holds comparison.Gte x y = le y x
ieee_holds comparison.Lt x y = lt x y
ieee_holds comparison.Lte x y = le x y

abbrev pub ieee_is : FloatType → Comparison → ℕ → ℕ → Bool
ieee_is F16 c a b = half_ieee c (half_of a) (half_of b)
ieee_is F32 c a b = ieee_holds c (of_bits binary32 a) (of_bits binary32 b)
ieee_is F64 c a b = ieee_holds c (of_bits binary64 a) (of_bits binary64 b)

-- the comparison of two floats by their bits, under a meaning of NaN
abbrev pub float_holds : NanMeaning → FloatType → Comparison → ℕ → ℕ → Bool
float_holds Greatest t c a b = holds c (float_cmp t a b)
float_holds Ieee t c a b = ieee_is t c a b

-- ---- the whole number of a float, by its bits

-- the bit of the sign
abbrev pub sign_bit : FloatType → ℕ
sign_bit F16 = 32_768
sign_bit F32 = 2_147_483_648
sign_bit F64 = 9_223_372_036_854_775_808

-- the bits of infinity; those above it are NaN
abbrev pub infinity_bits : FloatType → ℕ
infinity_bits F16 = 31_744
infinity_bits F32 = 2_139_095_040
infinity_bits F64 = 9_218_868_437_227_405_312

-- the bits of the NaN that stands for all
abbrev pub nan_bits : FloatType → ℕ
nan_bits F16 = 32_256
nan_bits F32 = 2_143_289_344
nan_bits F64 = 9_221_120_237_041_090_560

abbrev pub is_nan_bits : FloatType → ℕ → Bool
is_nan_bits t b = nat_lt (infinity_bits t) (b % sign_bit t)

-- by the sign and the other bits: of a negative number these are turned round
abbrev pub signed_key : Bool → ℕ → ℤ
signed_key false m = pos m
signed_key true zero = pos 0
signed_key true (suc m) = negsuc (suc m)

abbrev pub key : FloatType → ℕ → ℤ
key t b = if is_nan_bits t b then pos (nan_bits t) else signed_key (nat_le (sign_bit t) b) (b % sign_bit t)

-- two floats compare as their whole numbers, NaN being the greatest
abbrev pub FloatsCompareAsNumbers : Type 0
FloatsCompareAsNumbers = (t : FloatType) (a b : ℕ) → float_cmp t a b ≡ int_cmp (key t a) (key t b)

-- ---- comparisons with a literal

abbrev pub below_holds : ℤ → Option ℤ → Bool
below_holds n None = true
below_holds n (Some k) = int_lt n k

abbrev pub float_test_holds : ℤ → FloatTest → Bool
float_test_holds n t = test_holds n t.test && below_holds n t.below

-- a test that no number of the column passes, or for <> one that each passes
abbrev pub nan_comparison : Comparison → Comparison
nan_comparison comparison.NotEq = comparison.Lte
nan_comparison c = comparison.Gt

-- NaN has to be left out where its number would pass
abbrev pub bound_of : FloatType → Comparison → Option ℤ
bound_of t comparison.Gt = Some (pos (nan_bits t))
bound_of t comparison.Gte = Some (pos (nan_bits t))
bound_of t c = None

abbrev pub float_test : Comparison → ℤ → Option ℤ → FloatTest
float_test c n b = record { test = record { comparison = c; number = n }; below = b }

abbrev pub ieee_test : FloatType → Comparison → ℕ → FloatTest
ieee_test t c b = if is_nan_bits t b then float_test (nan_comparison c) (key t b) None else float_test c (key t b) (bound_of t c)
