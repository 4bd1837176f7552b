-- The exact entries of a set that is true of a column are those that are measured of it.
use Rattle.std.proofs.Common.{◌≡◌, ℕ, true, cond, List, Option, Some, None, refl, sym, ap, subst, ◌∙◌}
use Rattle.std.specs.Prelude.{pos}
use Rattle.std.specs.Cmp.{Equal-is}
use mathlib.Core.Bool.{true≢false}
use Rattle.vortex_base.specs.declared.dtype.DType.TheVariants as dtype
use Rattle.vortex_base.specs.declared.types.Nullability.TheVariants.{NonNullable}
use Rattle.vortex_base.specs.declared.types.PType.TheVariants as ptype
use Rattle.vortex_base.specs.declared.scalar_value.ScalarValue.{ScalarValue}
use Rattle.vortex_base.specs.Data.Columns.{ColumnData}
use Rattle.vortex_base.specs.Data.Values.{is_value, value_cmp}
use Rattle.vortex_stats.specs.declared.precision.Precision.{Precision}
use Rattle.vortex_stats.specs.declared.precision.Precision.TheVariants.{Exact, Absent}
use Rattle.vortex_stats.specs.declared.stat.Stat.{Stat}
use Rattle.vortex_stats.specs.declared.stat.Stat.TheVariants.{IsConstant, IsSorted, IsStrictSorted, Max, Min, Sum, NullCount, UncompressedSizeInBytes, NaNCount}
use Rattle.vortex_stats.specs.Measuring.Checks.{allows_sum}
use Rattle.vortex_stats.specs.Measuring.Measured.{measured, measured_value, number_in}
use Rattle.vortex_stats.specs.Measuring.Told.{exactly, told}
use Rattle.vortex_stats.specs.Sets.Claims.{Claims, IsTrueOf, count_value}
use Rattle.vortex_stats.specs.Sets.Entries.{entry_value, value_fits}
use Rattle.vortex_stats.specs.Stat.{all_stats}
use Rattle.vortex_stats.proofs.Bounds.ValueOrder.{same_from_equal}
use Rattle.vortex_stats.proofs.Measuring.CheckLemmas.{allows_decides}
use Rattle.vortex_stats.proofs.Measuring.MeasuredSets.{entry_value-measured, is_among}
use Rattle.vortex_stats.proofs.Measuring.MeasureLemmas.{greatest_is, least_is}
use Rattle.vortex_stats.proofs.Sets.Fitting.{entry_value-fits}

-- the sum that is told is the one measured
sum_is : (v : ScalarValue) (o : Option ScalarValue) → allows_sum (Exact v) o ≡ true → o ≡ Some v
sum_is v (Some w) h = ap Some (sym (same_from_equal v w ((Equal-is (value_cmp v w)).0 h)))
sum_is v None h = absurd (true≢false (sym h))

-- a count that is a value of the type of counts is one
count_is : (n : ℕ) → is_value (count_value n) (dtype.Primitive ptype.U64 NonNullable) ≡ true → number_in (Some (dtype.Primitive ptype.U64 NonNullable)) (pos n) ≡ Some (count_value n)
count_is n h = ap (λ b. cond b (Some (count_value n)) None) h

count_told : (v : ScalarValue) (n : ℕ) → is_value v (dtype.Primitive ptype.U64 NonNullable) ≡ true → v ≡ count_value n → number_in (Some (dtype.Primitive ptype.U64 NonNullable)) (pos n) ≡ Some v
count_told v n fits e = count_is n (ap (λ w. is_value w (dtype.Primitive ptype.U64 NonNullable)) (sym e) ∙ fits) ∙ ap Some (sym e)

value_is : (s : Stat) (v : ScalarValue) (c : ColumnData) → value_fits s c.dtype (Exact v) ≡ true → Claims s (Exact v) c → measured_value s c ≡ Some v
value_is IsConstant v c fits claim = ap Some (sym claim)
value_is IsSorted v c fits claim = ap Some (sym claim)
value_is IsStrictSorted v c fits claim = ap Some (sym claim)
value_is Max v c fits claim = greatest_is c.values v claim.0 claim.1
value_is Min v c fits claim = least_is c.values v claim.0 claim.1
value_is Sum v c fits claim = sum_is v (measured_value Sum c) ((allows_decides Sum (Exact v) c fits).1 claim)
value_is NullCount v c fits claim = count_told v _ fits claim
value_is UncompressedSizeInBytes v c fits claim = count_told v _ fits claim
value_is NaNCount v c fits claim = absurd (true≢false (sym fits))

-- every statistic is asked for
each_asked : (s : Stat) → is_among s all_stats ≡ true
unfolding all_stats
each_asked IsConstant = refl
each_asked IsSorted = refl
each_asked IsStrictSorted = refl
each_asked Max = refl
each_asked Min = refl
each_asked Sum = refl
each_asked NullCount = refl
each_asked UncompressedSizeInBytes = refl
each_asked NaNCount = refl

pub exact_is_measured : (s : Stat) (v : ScalarValue) (es : List (Stat × Precision ScalarValue)) (c : ColumnData) → IsTrueOf es c → entry_value s es ≡ Exact v → entry_value s (measured all_stats c) ≡ Exact v
exact_is_measured s v es c holds is =
    let claim : Claims s (Exact v) c = subst (λ (p : Precision ScalarValue). Claims s p c) is (holds.claims s) in
    let fits : value_fits s c.dtype (Exact v) ≡ true = ap (value_fits s c.dtype) (sym is) ∙ entry_value-fits s c.dtype es holds.fits in
    entry_value-measured c s all_stats ∙ ap (λ b. cond b (told c s) Absent) (each_asked s) ∙ ap exactly (value_is s v c fits claim)

-- what is measured of a column is exact in its set
pub measured_of : (s : Stat) (v : ScalarValue) (c : ColumnData) → measured_value s c ≡ Some v → entry_value s (measured all_stats c) ≡ Exact v
measured_of s v c h = entry_value-measured c s all_stats ∙ ap (λ b. cond b (told c s) Absent) (each_asked s) ∙ ap exactly h

-- an exact entry of a set that is true is what is measured
pub measured_is : (s : Stat) (v : ScalarValue) (es : List (Stat × Precision ScalarValue)) (c : ColumnData) → IsTrueOf es c → entry_value s es ≡ Exact v → measured_value s c ≡ Some v
measured_is s v es c holds is =
    value_is s v c (ap (value_fits s c.dtype) (sym is) ∙ entry_value-fits s c.dtype es holds.fits) (subst (λ (p : Precision ScalarValue). Claims s p c) is (holds.claims s))
