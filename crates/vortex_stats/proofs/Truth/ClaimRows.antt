-- Worked rows of what statistics claim, over columns that are small enough to compute.
use Rattle.std.proofs.Common.{◌≡◌, ℕ, zero, suc, ◌≤◌, Bool, true, false, List, [], ◌∷◌, Option, Some, None, refl, sym, arith}
use Rattle.std.specs.Prelude.{ℤ, pos, negsuc, Contains, codes}
use Rattle.std.specs.List.{list_all}
use Rattle.std.proofs.lemmas.Bool.{not-true}
use Rattle.std.proofs.lemmas.Int.{ints}
use mathlib.Core.Bool.{true≢false}
use Rattle.std.proofs.lemmas.List.Elements.{All-contains}
use Rattle.std.proofs.lemmas.List.Sums.{AllPass-from_list_all}
use Rattle.vortex_base.specs.declared.dtype.DType.TheVariants as dtype
use Rattle.vortex_base.specs.declared.types.Nullability.TheVariants.{Nullable}
use Rattle.vortex_base.specs.declared.types.PType.TheVariants as ptype
use Rattle.vortex_base.specs.declared.pvalue.PValue.TheVariants as number
use Rattle.vortex_base.specs.declared.scalar_value.ScalarValue.{ScalarValue}
use Rattle.vortex_base.specs.declared.scalar_value.ScalarValue.TheVariants as value
use Rattle.vortex_base.specs.Data.Columns.{ColumnData}
use Rattle.vortex_base.specs.Data.Values.{value_cmp}
use Rattle.std.specs.Ordering.{is_gt}
use Rattle.vortex_stats.specs.declared.stat.Stat.{Stat}
use Rattle.vortex_stats.specs.declared.stat.Stat.TheVariants.{IsConstant, IsSorted, IsStrictSorted, Max, Min, Sum, NullCount, UncompressedSizeInBytes, NaNCount}
use Rattle.vortex_stats.specs.declared.precision.Precision.{Precision}
use Rattle.vortex_stats.specs.declared.precision.Precision.TheVariants.{Exact, Inexact}
use Rattle.vortex_stats.specs.Sets.Claims.{Claims, NoneAbove, NoneBelow, present, null_count, sum_of, is_constant, is_sorted, is_strict_sorted, count_value, IsTrueOf}
use Rattle.vortex_stats.specs.Sets.Entries.{entry_value}
use Rattle.vortex_stats.specs.Merging.Merges.{is_at_most}

abbrev int : ℤ → ScalarValue
int n = value.Primitive (number.I32 n)

abbrev long : ℤ → ScalarValue
long n = value.Primitive (number.I64 n)

abbrev text : List ℕ → Option ScalarValue
text bs = Some (value.Utf8 bs)

abbrev some : ℤ → Option ScalarValue
some n = Some (int n)

abbrev bool : Bool → Option ScalarValue
bool b = Some (value.Bool b)

-- ---- whether all are equal: nulls among them, and nothing of no rows

constant_of_no_rows : is_constant [] ≡ true
constant_of_no_rows = refl

constant_of_nulls : is_constant (None ∷ None ∷ []) ≡ true
constant_of_nulls = refl

constant_of_a_value : is_constant (some (pos 1) ∷ some (pos 1) ∷ some (pos 1) ∷ []) ≡ true
constant_of_a_value = refl

not_constant_with_a_null : is_constant (some (pos 1) ∷ None ∷ []) ≡ false
not_constant_with_a_null = refl

not_constant_of_two : is_constant (some (pos 1) ∷ some (pos 1) ∷ some (pos 2) ∷ []) ≡ false
not_constant_of_two = refl

-- ---- whether they ascend: nulls left out

sorted_of_no_rows : is_sorted (present []) ≡ true
sorted_of_no_rows = refl

sorted_around_nulls : is_sorted (present (some (negsuc 1) ∷ None ∷ some (pos 1) ∷ some (pos 1) ∷ None ∷ [])) ≡ true
sorted_around_nulls = refl

not_strict_at_a_tie : is_strict_sorted (present (some (negsuc 1) ∷ None ∷ some (pos 1) ∷ some (pos 1) ∷ [])) ≡ false
not_strict_at_a_tie = refl

strict_around_nulls : is_strict_sorted (present (None ∷ some (negsuc 1) ∷ None ∷ some (pos 1) ∷ [])) ≡ true
strict_around_nulls = refl

not_sorted_where_they_fall : is_sorted (present (some (pos 1) ∷ some (pos 3) ∷ None ∷ some (pos 2) ∷ [])) ≡ false
not_sorted_where_they_fall = refl

texts_by_bytes : is_strict_sorted (present (text (codes "Z") ∷ text (codes "a") ∷ text (codes "ab") ∷ text (codes "b") ∷ [])) ≡ true
texts_by_bytes = refl

false_before_true : is_strict_sorted (present (bool false ∷ bool true ∷ [])) ≡ true
false_before_true = refl

-- ---- counts and sums

two_nulls : null_count (None ∷ some (pos 4) ∷ None ∷ []) ≡ 2
two_nulls = refl

sum_below_zero : sum_of (present (some (pos 5) ∷ None ∷ some (negsuc 6) ∷ [])) ≡ negsuc 1
sum_below_zero = refl

sum_of_truths : sum_of (present (bool true ∷ bool false ∷ None ∷ bool true ∷ [])) ≡ pos 2
sum_of_truths = refl

sum_of_no_rows : sum_of (present []) ≡ pos 0
sum_of_no_rows = refl

-- ---- sets

-- a test of all values in place of one value after another
abbrev is_upper : ScalarValue → Option ScalarValue → Bool
is_upper v None = true
is_upper v (Some w) = is_at_most w v

abbrev is_lower : ScalarValue → Option ScalarValue → Bool
is_lower v None = true
is_lower v (Some w) = is_at_most v w

none_above : (v : ScalarValue) (xs : List (Option ScalarValue)) → list_all (is_upper v) xs ≡ true → NoneAbove v xs
none_above v xs h = λ w i. not-true (is_gt (value_cmp w v)) (All-contains (λ x. is_upper v x ≡ true) xs (Some w) (AllPass-from_list_all (is_upper v) xs h) i)

none_below : (v : ScalarValue) (xs : List (Option ScalarValue)) → list_all (is_lower v) xs ≡ true → NoneBelow v xs
none_below v xs h = λ w i. not-true (is_gt (value_cmp v w)) (All-contains (λ x. is_lower v x ≡ true) xs (Some w) (AllPass-from_list_all (is_lower v) xs h) i)

-- a null and two values
abbrev rows : ColumnData
rows = record { dtype = dtype.Primitive ptype.I32 Nullable; values = some (pos 3) ∷ None ∷ some (pos 7) ∷ []; size = 12 }

-- each statistic that a column of whole numbers may have
abbrev told : List (Stat × Precision ScalarValue)
told =
    (NullCount, Exact (count_value 1)) ∷ (Max, Exact (int (pos 7))) ∷ (Min, Inexact (int (negsuc 0))) ∷ (Sum, Exact (long (pos 10)))
    ∷ (UncompressedSizeInBytes, Exact (count_value 12)) ∷ (IsConstant, Exact (value.Bool false)) ∷ (IsSorted, Exact (value.Bool true)) ∷ (IsStrictSorted, Inexact (value.Bool false)) ∷ []

told_claims : (s : Stat) → Claims s (entry_value s told) rows
told_claims IsConstant = refl
told_claims IsSorted = refl
told_claims IsStrictSorted = tt
told_claims Max = ((2, omega arith, refl), none_above (int (pos 7)) (rows.values) refl)
told_claims Min = none_below (int (negsuc 0)) (rows.values) refl
told_claims Sum = refl
told_claims NullCount = refl
told_claims UncompressedSizeInBytes = refl
told_claims NaNCount = tt

told_is_true : IsTrueOf told rows
told_is_true = record { fits = refl; claims = told_claims }

-- a value that is inexact bounds a count from above, and says nothing of a sum or a test
abbrev loosely_told : List (Stat × Precision ScalarValue)
loosely_told =
    (NullCount, Inexact (count_value 2)) ∷ (UncompressedSizeInBytes, Inexact (count_value 16)) ∷ (Sum, Inexact (long (pos 11)))
    ∷ (IsConstant, Inexact (value.Bool true)) ∷ (IsSorted, Inexact (value.Bool false)) ∷ []

loose_claims : (s : Stat) → Claims s (entry_value s loosely_told) rows
loose_claims IsConstant = tt
loose_claims IsSorted = tt
loose_claims IsStrictSorted = tt
loose_claims Max = tt
loose_claims Min = tt
loose_claims Sum = tt
loose_claims NullCount = (2, refl, omega arith)
loose_claims UncompressedSizeInBytes = (16, refl, omega arith)
loose_claims NaNCount = tt

loosely_told_is_true : IsTrueOf loosely_told rows
loosely_told_is_true = record { fits = refl; claims = loose_claims }

-- 1, 1 ascends, and not strictly
abbrev ties : ColumnData
ties = record { dtype = dtype.Primitive ptype.I32 Nullable; values = some (pos 1) ∷ some (pos 1) ∷ []; size = 8 }

abbrev told_of_ties : List (Stat × Precision ScalarValue)
told_of_ties = (IsConstant, Exact (value.Bool true)) ∷ (IsSorted, Exact (value.Bool true)) ∷ (IsStrictSorted, Exact (value.Bool false)) ∷ []

claims_of_ties : (s : Stat) → Claims s (entry_value s told_of_ties) ties
claims_of_ties IsConstant = refl
claims_of_ties IsSorted = refl
claims_of_ties IsStrictSorted = refl
claims_of_ties s = tt

ties_are_told : IsTrueOf told_of_ties ties
ties_are_told = record { fits = refl; claims = claims_of_ties }

-- ---- sets that are not true

not_among : Contains rows.values (Some (int (pos 8))) → ⊥
not_among (zero, l, e) = absurd (cc)
not_among (suc zero, l, e) = absurd (cc)
not_among (suc (suc zero), l, e) = absurd (cc)
not_among (suc (suc (suc k)), l, e) = absurd (omega arith)

no_fewer : (m : ℕ) → count_value 0 ≡ count_value m → 1 ≤ m → ⊥
no_fewer m e l = let same : 0 ≡ m = cc in omega arith

truths_differ : value.Bool true ≡ value.Bool false → ⊥
truths_differ e = cc

count_of_value : (n m : ℕ) → count_value n ≡ count_value m → n ≡ m
count_of_value n m e = cc

counts_differ : count_value 16 ≡ count_value 12 → ⊥
counts_differ e = omega (arith, count_of_value 16 12 e)

-- an exact maximum is a value of the column, also where it is an upper bound
max_is_a_value : IsTrueOf ((Max, Exact (int (pos 8))) ∷ []) rows → ⊥
max_is_a_value h = not_among ((h.claims Max).0)

bound_too_low : IsTrueOf ((Max, Inexact (int (pos 6))) ∷ []) rows → ⊥
bound_too_low h = true≢false ((h.claims Max) (int (pos 7)) (2, omega arith, refl))

bound_too_high : IsTrueOf ((Min, Inexact (int (pos 4))) ∷ []) rows → ⊥
bound_too_high h = true≢false ((h.claims Min) (int (pos 3)) (0, omega arith, refl))

too_few_nulls : IsTrueOf ((NullCount, Inexact (count_value 0)) ∷ []) rows → ⊥
too_few_nulls h = no_fewer (h.claims NullCount).0 (h.claims NullCount).1 (h.claims NullCount).2

another_sum : IsTrueOf ((Sum, Exact (long (pos 11))) ∷ []) rows → ⊥
another_sum h = absurd (omega (arith, ints, h.claims Sum))

another_size : IsTrueOf ((UncompressedSizeInBytes, Exact (count_value 16)) ∷ []) rows → ⊥
another_size h = counts_differ (h.claims UncompressedSizeInBytes)

size_too_small : IsTrueOf ((UncompressedSizeInBytes, Inexact (count_value 11)) ∷ []) rows → ⊥
size_too_small h =
    let bound = h.claims UncompressedSizeInBytes in
    let same : 11 ≡ bound.0 = count_of_value 11 bound.0 bound.1 in
    absurd (omega arith)

-- a sum does not wrap
abbrev wide : ColumnData
wide = record { dtype = dtype.Primitive ptype.U64 Nullable; values = Some (count_value 18446744073709551615) ∷ Some (count_value 1) ∷ []; size = 16 }

wrapped_sum : IsTrueOf ((Sum, Exact (count_value 0)) ∷ []) wide → ⊥
wrapped_sum h = absurd (omega (arith, ints, h.claims Sum))

strict_with_a_tie : IsTrueOf ((IsStrictSorted, Exact (value.Bool true)) ∷ []) ties → ⊥
strict_with_a_tie h = truths_differ (h.claims IsStrictSorted)

-- a sum of signed numbers is no unsigned one
sum_of_another_type : IsTrueOf ((Sum, Exact (count_value 10)) ∷ []) rows → ⊥
sum_of_another_type h = true≢false (sym h.fits)

-- a column of whole numbers has no NaNs to count
nans_of_integers : IsTrueOf ((NaNCount, Exact (count_value 0)) ∷ []) rows → ⊥
nans_of_integers h = true≢false (sym h.fits)

constant_of_both : IsTrueOf ((IsConstant, Exact (value.Bool true)) ∷ []) rows → ⊥
constant_of_both h = truths_differ (h.claims IsConstant)
