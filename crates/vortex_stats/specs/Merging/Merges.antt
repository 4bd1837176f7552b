-- The statistics of one array followed by another, from the statistics of both.
use Rattle.std.specs.Prelude.{◌+◌, ◌^◌, ℤ, ◌+ℤ◌, int_le, Bool, true, false, not, ◌||◌, ◌&&◌, List, [], Option, Some, None, nat_lt, if◌then◌else◌}
use Rattle.std.specs.Ordering.{is_eq, is_gt, is_lt}
use Rattle.vortex_base.specs.declared.types.PType.TheVariants as ptype
use Rattle.vortex_base.specs.declared.pvalue.PValue.TheVariants as number
use Rattle.vortex_base.specs.declared.scalar_value.ScalarValue.{ScalarValue}
use Rattle.vortex_base.specs.declared.scalar_value.ScalarValue.TheVariants as value
use Rattle.vortex_base.specs.Data.Values.{value_cmp, least, greatest}
use Rattle.vortex_stats.specs.declared.stat.Stat.{Stat}
use Rattle.vortex_stats.specs.declared.stat.Stat.TheVariants.{IsConstant, IsSorted, IsStrictSorted, Max, Min, Sum, NullCount, UncompressedSizeInBytes, NaNCount}
use Rattle.vortex_stats.specs.declared.precision.Precision.{Precision}
use Rattle.vortex_stats.specs.declared.precision.Precision.TheVariants.{Exact, Inexact}
use Rattle.vortex_stats.specs.Sets.Entries.{entry_value, with_entry, without_entry}
use Rattle.vortex_stats.specs.Bounds.LowerBound.{lower_union}
use Rattle.vortex_stats.specs.Precision.{present_value}
use Rattle.vortex_stats.specs.Bounds.UpperBound.{upper_union}

-- ---- the merged value of each statistic, from those of the two sides; None clears the entry

abbrev pub truth : Bool → Precision ScalarValue
truth b = Exact (value.Bool b)

abbrev pub is_exact_truth : Bool → Precision ScalarValue → Bool
is_exact_truth true (Exact (value.Bool b)) = b
is_exact_truth false (Exact (value.Bool true)) = false
is_exact_truth false (Exact (value.Bool false)) = true
is_exact_truth b p = false

-- whether two exact minima are equal; of any others nothing is known
abbrev pub same_minima : Precision ScalarValue → Precision ScalarValue → Option (Precision ScalarValue)
same_minima (Exact x) (Exact y) = Some (truth (is_eq (value_cmp x y)))
same_minima p q = None

-- IsConstant: false if either side is exactly false; of two that are exactly true whether their minima are equal
abbrev pub constant_merged : (left other : Precision ScalarValue) → (left_min other_min : Precision ScalarValue) → Option (Precision ScalarValue)
constant_merged c d m n =
    if is_exact_truth false c || is_exact_truth false d then Some (truth false)
    else (if is_exact_truth true c && is_exact_truth true d then same_minima m n else None)

-- true where the test holds, and else unknown, which is written as inexactly false
abbrev pub seam : Bool → Precision ScalarValue
seam in_order = if in_order then truth true else Inexact (value.Bool false)

-- the greatest value of the one side and the least of the other, where both are known
abbrev pub at_seam : (ScalarValue → ScalarValue → Bool) → Option ScalarValue → Option ScalarValue → Option (Precision ScalarValue)
at_seam test (Some max) (Some min) = Some (seam (test max min))
at_seam test p q = None

-- IsSorted and IsStrictSorted: of two that are exactly true whether the first side's maximum may stand before the other's minimum
abbrev pub order_merged : (ScalarValue → ScalarValue → Bool) → (left other : Precision ScalarValue) → (left_max other_min : Precision ScalarValue) → Option (Precision ScalarValue)
order_merged test c d max min =
    if is_exact_truth true c && is_exact_truth true d then at_seam test (present_value max) (present_value min) else None

abbrev pub is_at_most : ScalarValue → ScalarValue → Bool
is_at_most v w = not (is_gt (value_cmp v w))

abbrev pub is_below : ScalarValue → ScalarValue → Bool
is_below v w = is_lt (value_cmp v w)

-- the sum of two sums, where it stays in their type
abbrev pub sum_added : ScalarValue → ScalarValue → Option (Precision ScalarValue)
sum_added (value.Primitive (number.I64 m)) (value.Primitive (number.I64 n)) =
    if int_le (least ptype.I64) (m +ℤ n) && int_le (m +ℤ n) (greatest ptype.I64) then Some (Exact (value.Primitive (number.I64 (m +ℤ n)))) else None
sum_added (value.Primitive (number.U64 m)) (value.Primitive (number.U64 n)) =
    if nat_lt (m + n) (2 ^ 64) then Some (Exact (value.Primitive (number.U64 (m + n)))) else None
sum_added v w = None

-- Sum: of two exact ones
abbrev pub sum_merged : (left other : Precision ScalarValue) → Option (Precision ScalarValue)
sum_merged (Exact v) (Exact w) = sum_added v w
sum_merged p q = None

-- the sum of two counts, where it stays below 2 ^ 64
abbrev pub count_added : (ScalarValue → Precision ScalarValue) → ScalarValue → ScalarValue → Option (Precision ScalarValue)
count_added case (value.Primitive (number.U64 m)) (value.Primitive (number.U64 n)) =
    if nat_lt (m + n) (2 ^ 64) then Some (case (value.Primitive (number.U64 (m + n)))) else None
count_added case v w = None

-- NullCount and UncompressedSizeInBytes: the sum, exact of two exact ones
abbrev pub count_merged : (left other : Precision ScalarValue) → Option (Precision ScalarValue)
count_merged (Exact v) (Exact w) = count_added Exact v w
count_merged (Exact v) (Inexact w) = count_added Inexact v w
count_merged (Inexact v) (Exact w) = count_added Inexact v w
count_merged (Inexact v) (Inexact w) = count_added Inexact v w
count_merged p q = None

-- ---- whole sets

-- the merged value of a statistic, from the entries of the two sides as they came in
abbrev pub merged_value : Stat → (left other : List (Stat × Precision ScalarValue)) → Option (Precision ScalarValue)
merged_value IsConstant a b = constant_merged (entry_value IsConstant a) (entry_value IsConstant b) (entry_value Min a) (entry_value Min b)
merged_value IsSorted a b = order_merged is_at_most (entry_value IsSorted a) (entry_value IsSorted b) (entry_value Max a) (entry_value Min b)
merged_value IsStrictSorted a b = order_merged is_below (entry_value IsStrictSorted a) (entry_value IsStrictSorted b) (entry_value Max a) (entry_value Min b)
merged_value Max a b = upper_union value_cmp (entry_value Max a) (entry_value Max b)
merged_value Min a b = lower_union value_cmp (entry_value Min a) (entry_value Min b)
merged_value Sum a b = sum_merged (entry_value Sum a) (entry_value Sum b)
merged_value NullCount a b = count_merged (entry_value NullCount a) (entry_value NullCount b)
merged_value UncompressedSizeInBytes a b = count_merged (entry_value UncompressedSizeInBytes a) (entry_value UncompressedSizeInBytes b)
merged_value NaNCount a b = None

-- the same where the order of the rows isn't known
abbrev pub unordered_value : Stat → (left other : List (Stat × Precision ScalarValue)) → Option (Precision ScalarValue)
unordered_value IsSorted a b = None
unordered_value IsStrictSorted a b = None
unordered_value s a b = merged_value s a b

-- the statistic has this value from here on, at its place or last, or no entry
abbrev pub revised : Stat → Option (Precision ScalarValue) → List (Stat × Precision ScalarValue) → List (Stat × Precision ScalarValue)
revised s None es = without_entry s es
revised s (Some p) es = with_entry s p es

-- the entries with a new value for each statistic, by number
abbrev pub all_revised : (Stat → Option (Precision ScalarValue)) → List (Stat × Precision ScalarValue) → List (Stat × Precision ScalarValue)
all_revised v es =
    revised NaNCount (v NaNCount) (revised UncompressedSizeInBytes (v UncompressedSizeInBytes) (revised NullCount (v NullCount)
    (revised Sum (v Sum) (revised Min (v Min) (revised Max (v Max)
    (revised IsStrictSorted (v IsStrictSorted) (revised IsSorted (v IsSorted) (revised IsConstant (v IsConstant) es))))))))

-- the entries of the merged set
abbrev pub merged_ordered : (left other : List (Stat × Precision ScalarValue)) → List (Stat × Precision ScalarValue)
merged_ordered a b = all_revised (λ s. merged_value s a b) a

abbrev pub merged_unordered : (left other : List (Stat × Precision ScalarValue)) → List (Stat × Precision ScalarValue)
merged_unordered a b = all_revised (λ s. unordered_value s a b) a

-- ---- the same step by step: each statistic in the order of the numbers, each step from what the earlier ones left

abbrev pub merge_step : (List (Stat × Precision ScalarValue)) → List (Stat × Precision ScalarValue) → Stat → List (Stat × Precision ScalarValue)
merge_step other es s = revised s (merged_value s es other) es

abbrev pub merged_by_steps : (left other : List (Stat × Precision ScalarValue)) → List (Stat × Precision ScalarValue)
merged_by_steps a b =
    merge_step b (merge_step b (merge_step b (merge_step b (merge_step b (merge_step b (merge_step b (merge_step b (merge_step b a
    IsConstant) IsSorted) IsStrictSorted) Max) Min) Sum) NullCount) UncompressedSizeInBytes) NaNCount
