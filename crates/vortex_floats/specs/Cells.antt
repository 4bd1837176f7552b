-- The floats that the cells of a column stand for, and the test of a cell's whole number that a comparison with a float is.
use Rattle.std.specs.Prelude.{◌≡◌, ℕ, zero, suc, ◌+◌, Bool, true, false, ◌&&◌, ◌||◌, nat_le, nat_lt, int_lt, ℤ, pos, negsuc, Option, Some, None, if◌then◌else◌}
use Rattle.std.specs.declared.cmp.Ordering.TheVariants.{Equal}
use Rattle.vortex_logical.specs.declared.comparison.Comparison.{Comparison}
use Rattle.vortex_logical.specs.declared.comparison.Comparison.TheVariants as comparison
use Rattle.vortex_logical.specs.declared.float_type.FloatType.{FloatType}
use Rattle.vortex_logical.specs.declared.float_test.FloatTest.{FloatTest}
use Rattle.vortex_logical.specs.declared.float_test.NanMeaning.{NanMeaning}
use Rattle.vortex_logical.specs.declared.float_test.NanMeaning.TheVariants.{Greatest, Ieee}
use Rattle.vortex_logical.specs.Floats.{bound_of, float_cmp, float_holds, float_test, float_test_holds, infinity_bits, key, nan_bits, sign_bit}

-- ---- the float of a cell

-- a number that is that of no float stands for a float beside it: one past that of infinity for infinity, one past NaN's for NaN, one below that of -infinity for -infinity, and -1 for the greatest float below 0
abbrev pub above_zero : FloatType → ℕ → ℕ
above_zero t n = if nat_le n (infinity_bits t) then n else (if nat_lt n (nan_bits t) then infinity_bits t else nan_bits t)

abbrev pub below_zero : FloatType → ℕ → ℕ
below_zero t n = sign_bit t + (if nat_le n (infinity_bits t) then n else infinity_bits t)

-- its bits
abbrev pub bits_at : FloatType → ℤ → ℕ
bits_at t (pos n) = above_zero t n
bits_at t (negsuc zero) = below_zero t 1
bits_at t (negsuc (suc n)) = below_zero t (suc n)

-- the cell that holds the whole number of a float stands for that float
abbrev pub CellsStandForFloats : Type 0
CellsStandForFloats = (t : FloatType) (b : ℕ) → float_cmp t (bits_at t (key t b)) b ≡ Equal

-- ---- the comparison with a float

-- where nothing is said of NaN it may mean either
abbrev pub Allows : Option NanMeaning → NanMeaning → Type 0
Allows None m = Unit {0}
Allows (Some said) m = said ≡ m

-- both meanings of NaN say the same of a NaN beside a number
abbrev pub is_agreed : Comparison → Bool
is_agreed comparison.Gt = false
is_agreed comparison.Gte = false
is_agreed c = true

abbrev pub is_told : Option NanMeaning → Comparison → Bool
is_told None c = is_agreed c
is_told (Some m) c = true

abbrev pub infinity_key : FloatType → ℤ
infinity_key t = pos (infinity_bits t)

-- the whole number of a finite float, beside which each number that is that of no float lies where the float does for which it stands
abbrev pub is_clear : FloatType → ℤ → Bool
is_clear t k = int_lt (negsuc (infinity_bits t)) k && (int_lt k (pos (infinity_bits t)) && (int_lt k (negsuc 1) || int_lt (negsuc 0) k))

abbrev pub below_of : FloatType → Option NanMeaning → Comparison → Option ℤ
below_of t (Some Ieee) c = bound_of t c
below_of t m c = None

abbrev pub cell_test : FloatType → Option NanMeaning → Comparison → ℕ → FloatTest
cell_test t m c b = float_test c (key t b) (below_of t m c)

abbrev pub compared : FloatType → Option NanMeaning → Comparison → ℕ → Option FloatTest
compared t m c b = if is_told m c && is_clear t (key t b) then Some (cell_test t m c b) else None

-- the test says of each cell what the comparison of its float with the float b says, under each meaning of NaN that is allowed
abbrev pub SaysOf : FloatType → Option NanMeaning → Comparison → ℕ → FloatTest → Type 0
SaysOf t said c b test = (m : NanMeaning) → Allows said m → (n : ℤ) → float_holds m t c (bits_at t n) b ≡ float_test_holds n test

-- where nothing is said of NaN and there is a test, both meanings say the same of each cell
abbrev pub MeaningsAgree : Type 0
MeaningsAgree = (t : FloatType) (c : Comparison) (b : ℕ) (test : FloatTest) → compared t None c b ≡ Some test → (n : ℤ) → float_holds Greatest t c (bits_at t n) b ≡ float_holds Ieee t c (bits_at t n) b

-- between two finite floats lies a float under both meanings or under neither: NaN is above the greater one, or compares with none
abbrev pub RangesAgree : Type 0
RangesAgree =
    (t : FloatType) (low high : ℕ) → is_clear t (key t low) ≡ true → is_clear t (key t high) ≡ true → (n : ℤ)
    → (float_holds Greatest t comparison.Gte (bits_at t n) low && float_holds Greatest t comparison.Lte (bits_at t n) high) ≡ (float_holds Ieee t comparison.Gte (bits_at t n) low && float_holds Ieee t comparison.Lte (bits_at t n) high)
