-- Exact statistics of what was written and of a batch stay exact where all of it has a value of the statistic.
use Rattle.std.proofs.Common.{◌≡◌, ℕ, ◌+◌, ◌++◌, ◌^◌, Bool, true, false, cond, ◌&&◌, List, [], ◌∷◌, Option, Some, None, refl, sym, ap, subst, ◌∙◌, rules}
use Rattle.std.specs.Prelude.{ℤ, pos, ◌+ℤ◌, int_le, nat_lt, IsSome}
use mathlib.Core.Bool.{true≢false}
use Rattle.std.proofs.lemmas.Option.{same_Some}
use Rattle.vortex_base.specs.declared.dtype.DType.{DType}
use Rattle.vortex_base.specs.declared.dtype.DType.TheVariants as dtype
use Rattle.vortex_base.specs.declared.pvalue.PValue.TheVariants as number
use Rattle.vortex_base.specs.declared.types.PType.TheVariants as ptype
use Rattle.vortex_base.specs.declared.types.Nullability.{Nullability}
use Rattle.vortex_base.specs.declared.types.Nullability.TheVariants.{NonNullable}
use Rattle.vortex_base.specs.declared.scalar_value.ScalarValue.{ScalarValue}
use Rattle.vortex_base.specs.declared.scalar_value.ScalarValue.TheVariants as value
use Rattle.vortex_base.specs.Data.Columns.{ColumnData, appended}
use Rattle.vortex_base.specs.Data.Values.{greatest, in_range, least, value_cmp}
use Rattle.vortex_stats.specs.declared.precision.Precision.{Precision}
use Rattle.vortex_stats.specs.declared.precision.Precision.TheVariants.{Exact}
use Rattle.vortex_stats.specs.declared.stat.Stat.{Stat}
use Rattle.vortex_stats.specs.declared.stat.Stat.TheVariants.{IsConstant, IsSorted, IsStrictSorted, Max, Min, Sum, NullCount, UncompressedSizeInBytes, NaNCount}
use Rattle.vortex_stats.specs.Bounds.LowerBound.{lower_union}
use Rattle.vortex_stats.specs.Bounds.UpperBound.{upper_union}
use Rattle.vortex_stats.specs.Measuring.Measured.{measured, measured_value, number_in}
use Rattle.vortex_stats.specs.Merging.Merges.{count_merged, merged_ordered, merged_value, sum_merged}
use Rattle.vortex_stats.specs.Sets.Claims.{IsTrueOf, null_count, present, sum_of}
use Rattle.vortex_stats.specs.Sets.Entries.{entry_value}
use Rattle.vortex_stats.specs.Stat.{all_stats, stat_dtype}
use Rattle.vortex_stats.proofs.Merging.Counts.{null_count-append}
use Rattle.vortex_stats.proofs.Merging.Sums.{sum_of-both}
use Rattle.vortex_stats.proofs.Sets.Lookups.{entry_value-all_revised, or_absent}
use Rattle.vortex_base_tests.specs.StatisticsRows.Writing.{IsMeasuredThroughout, adds_up, written}
use Rattle.vortex_base_tests.proofs.StatisticsRows.ExactEntries.{measured_is, measured_of}

-- the entry of the statistic is exact
pub record IsExactOf (s : Stat) (es : List (Stat × Precision ScalarValue)) : Type 0 where
  pub value : ScalarValue
  pub is : entry_value s es ≡ Exact value

-- ---- numbers that stay in their type

count_below : (n : ℕ) → in_range (number.U64 n) ≡ true → nat_lt n (2 ^ 64) ≡ true
count_below n h = search rules

record IsExactly (o : Option (Precision ScalarValue)) : Type 0 where
  value : ScalarValue
  is : o ≡ Some (Exact value)

kept_if : (b : Bool) (v : ScalarValue) → b ≡ true → IsExactly (cond b (Some (Exact v)) None)
kept_if true v h = record { value = v; is = refl }
kept_if false v h = absurd (true≢false (sym h))

some_if : (b : Bool) (v : ScalarValue) → IsSome (cond b (Some v) None) → b ≡ true
some_if true v h = refl
some_if false v h = absurd cc

one_if : (b : Bool) (v w : ScalarValue) → cond b (Some v) None ≡ Some w → v ≡ w
one_if true v w h = same_Some _ _ h
one_if false v w h = absurd cc

-- two numbers of a type whose sum is one of it
sum_kept : (o : Option DType) (a b : ℤ) (v w : ScalarValue) → number_in o a ≡ Some v → number_in o b ≡ Some w → IsSome (number_in o (a +ℤ b)) → IsExactly (sum_merged (Exact v) (Exact w))
sum_kept (Some (dtype.Primitive ptype.U64 n)) (pos a) (pos b) v w h k s =
    let first = one_if (in_range (number.U64 a)) (value.Primitive (number.U64 a)) v h in
    let second = one_if (in_range (number.U64 b)) (value.Primitive (number.U64 b)) w k in
    subst (λ (x : ScalarValue). IsExactly (sum_merged (Exact x) (Exact w))) first
    (subst (λ (x : ScalarValue). IsExactly (sum_merged (Exact (value.Primitive (number.U64 a))) (Exact x))) second
    (kept_if (nat_lt (a + b) (2 ^ 64)) (value.Primitive (number.U64 (a + b))) (count_below (a + b) (some_if (in_range (number.U64 (a + b))) (value.Primitive (number.U64 (a + b))) s))))
sum_kept (Some (dtype.Primitive ptype.I64 n)) a b v w h k s =
    let first = one_if (in_range (number.I64 a)) (value.Primitive (number.I64 a)) v h in
    let second = one_if (in_range (number.I64 b)) (value.Primitive (number.I64 b)) w k in
    subst (λ (x : ScalarValue). IsExactly (sum_merged (Exact x) (Exact w))) first
    (subst (λ (x : ScalarValue). IsExactly (sum_merged (Exact (value.Primitive (number.I64 a))) (Exact x))) second
    (kept_if (int_le (least ptype.I64) (a +ℤ b) && int_le (a +ℤ b) (greatest ptype.I64)) (value.Primitive (number.I64 (a +ℤ b)))
    (some_if (in_range (number.I64 (a +ℤ b))) (value.Primitive (number.I64 (a +ℤ b))) s)))
sum_kept o a b v w h k s = absurd cc

count_kept : (n : Nullability) (a b : ℕ) (v w : ScalarValue) → number_in (Some (dtype.Primitive ptype.U64 n)) (pos a) ≡ Some v → number_in (Some (dtype.Primitive ptype.U64 n)) (pos b) ≡ Some w
    → IsSome (number_in (Some (dtype.Primitive ptype.U64 n)) (pos (a + b))) → IsExactly (count_merged (Exact v) (Exact w))
count_kept n a b v w h k s =
    let first = one_if (in_range (number.U64 a)) (value.Primitive (number.U64 a)) v h in
    let second = one_if (in_range (number.U64 b)) (value.Primitive (number.U64 b)) w k in
    subst (λ (x : ScalarValue). IsExactly (count_merged (Exact x) (Exact w))) first
    (subst (λ (x : ScalarValue). IsExactly (count_merged (Exact (value.Primitive (number.U64 a))) (Exact x))) second
    (kept_if (nat_lt (a + b) (2 ^ 64)) (value.Primitive (number.U64 (a + b))) (count_below (a + b) (some_if (in_range (number.U64 (a + b))) (value.Primitive (number.U64 (a + b))) s))))

-- ---- one batch more

module _ (a b : List (Stat × Precision ScalarValue)) (c d : ColumnData) (types : c.dtype ≡ d.dtype) where
  -- of two exact values that are measured, the merged one
  value_kept : (s : Stat) (v w : ScalarValue) → adds_up s ≡ true → entry_value s a ≡ Exact v → entry_value s b ≡ Exact w → measured_value s c ≡ Some v → measured_value s d ≡ Some w → IsSome (measured_value s (appended c d))
      → IsExactly (merged_value s a b)
  value_kept Max v w k e f g h all = record { value = _; is = λ i. upper_union value_cmp (e i) (f i) }
  value_kept Min v w k e f g h all = record { value = _; is = λ i. lower_union value_cmp (e i) (f i) }
  value_kept Sum v w k e f g h all =
      let kept = sum_kept (stat_dtype Sum c.dtype) (sum_of (present c.values)) (sum_of (present d.values)) v w g
      (ap (λ t. number_in (stat_dtype Sum t) (sum_of (present d.values))) types ∙ h)
      (subst (λ (z : ℤ). IsSome (number_in (stat_dtype Sum c.dtype) z)) (sum_of-both c.values d.values) all) in
      record { value = kept.value; is = (λ i. sum_merged (e i) (f i)) ∙ kept.is }
  value_kept NullCount v w k e f g h all =
      let kept = count_kept NonNullable (null_count c.values) (null_count d.values) v w g h
      (subst (λ (n : ℕ). IsSome (number_in (stat_dtype NullCount c.dtype) (pos n))) (null_count-append c.values d.values) all) in
      record { value = kept.value; is = (λ i. count_merged (e i) (f i)) ∙ kept.is }
  value_kept UncompressedSizeInBytes v w k e f g h all =
      let kept = count_kept NonNullable c.size d.size v w g h all in
      record { value = kept.value; is = (λ i. count_merged (e i) (f i)) ∙ kept.is }
  value_kept IsConstant v w k e f g h all = absurd cc
  value_kept IsSorted v w k e f g h all = absurd cc
  value_kept IsStrictSorted v w k e f g h all = absurd cc
  value_kept NaNCount v w k e f g h all = absurd cc

some_value : (o : Option ScalarValue) → IsSome o → (v : ScalarValue) × (o ≡ Some v)
some_value (Some v) h = (v, refl)
some_value None h = absurd cc

pub exact_kept : (s : Stat) (all set : List (Stat × Precision ScalarValue)) (c d : ColumnData) → adds_up s ≡ true → c.dtype ≡ d.dtype → all ≡ merged_ordered set (measured all_stats d) → IsTrueOf set c
    → IsExactOf s set → IsSome (measured_value s d) → IsSome (measured_value s (appended c d)) → IsExactOf s all
exact_kept s all set c d k types is holds e one both =
    let w = some_value (measured_value s d) one in
    let kept = value_kept set (measured all_stats d) c d types s e.value w.0 k e.is (measured_of s w.0 d w.1) (measured_is s e.value set c holds e.is) w.1 both in
    record { value = kept.value; is = ap (entry_value s) is ∙ entry_value-all_revised (λ t. merged_value t set (measured all_stats d)) s set ∙ ap or_absent kept.is }

-- ---- all batches

pub throughout_last : (s : Stat) (c : ColumnData) (ds : List ColumnData) (d : ColumnData) → IsMeasuredThroughout s c (ds ++ d ∷ []) → IsMeasuredThroughout s c ds × (IsSome (measured_value s d) × IsSome (measured_value s (appended (written c ds) d)))
throughout_last s c [] d h = (h.0, h.1)
throughout_last s c (e ∷ es) d h = let k = throughout_last s (appended c e) es d h.1.1 in ((h.0, (h.1.0, k.0)), k.1)

pub throughout_first : (s : Stat) (c : ColumnData) (ds : List ColumnData) → IsMeasuredThroughout s c ds → IsSome (measured_value s c)
throughout_first s c [] h = h
throughout_first s c (d ∷ ds) h = h.0

pub exact_first : (s : Stat) (set : List (Stat × Precision ScalarValue)) (c : ColumnData) → set ≡ measured all_stats c → IsSome (measured_value s c) → IsExactOf s set
exact_first s set c is h = let v = some_value (measured_value s c) h in record { value = v.0; is = ap (entry_value s) is ∙ measured_of s v.0 c v.1 }
