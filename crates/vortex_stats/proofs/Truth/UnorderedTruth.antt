-- Unordered merges: true of every reordering of the appended column, and the same the other way round.
use Rattle.std.proofs.Common.{◌≡◌, ◌+◌, Bool, true, false, cond, ◌||◌, ◌&&◌, List, Option, Some, None, refl, sym, ap, subst, ◌∙◌, arith}
use Rattle.std.specs.Prelude.{MatchOption, IsPermutation, ◌+ℤ◌, int_le, nat_lt, ◌^◌, is_none, ⊤}
use Rattle.std.specs.Option.{is_some}
use Rattle.std.specs.declared.cmp.Ordering.{Ordering}
use Rattle.std.specs.declared.cmp.Ordering.TheVariants.{Less, Equal, Greater}
use Rattle.std.specs.Ordering.{is_lt, flip_args, ordering_reverse}
use Rattle.std.specs.Cmp.{IsTotalOrder, tied_back}
use Rattle.std.proofs.lemmas.Cmp.{eq_by_cmp_equiv}
use Rattle.std.proofs.lemmas.Int.{ints}
use Rattle.std.proofs.lemmas.List.Sorted.{sum_by-IsPermutation}
use Rattle.vortex_base.specs.declared.types.PType.TheVariants as ptype
use Rattle.vortex_base.specs.declared.pvalue.PValue.TheVariants as number
use Rattle.vortex_base.specs.declared.scalar_value.ScalarValue.{ScalarValue}
use Rattle.vortex_base.specs.declared.scalar_value.ScalarValue.TheVariants as value
use Rattle.vortex_base.specs.Data.Columns.{ColumnData}
use Rattle.vortex_base.specs.Data.Values.{value_cmp, least, greatest}
use Rattle.vortex_stats.specs.declared.stat.Stat.{Stat}
use Rattle.vortex_stats.specs.declared.stat.Stat.TheVariants.{IsConstant, IsSorted, IsStrictSorted, Max, Min, Sum, NullCount, UncompressedSizeInBytes, NaNCount}
use Rattle.vortex_stats.specs.declared.precision.Precision.{Precision}
use Rattle.vortex_stats.specs.declared.precision.Precision.TheVariants.{Exact, Inexact, Absent}
use Rattle.vortex_stats.specs.Sets.Claims.{Claims, ClaimsTruth, ClaimsCount, ClaimsSum, IsTrueOf, IsReordered, appended, null_count}
use Rattle.vortex_stats.specs.Sets.Entries.{has_entry, entry_value, entries_fit}
use Rattle.vortex_stats.specs.Merging.Merges.{is_exact_truth, truth, same_minima, constant_merged, sum_added, sum_merged, count_added, count_merged, merged_value, unordered_value, merged_unordered}
use Rattle.vortex_stats.specs.Bounds.Order.{greater, reversed_total}
use Rattle.vortex_stats.specs.Bounds.UpperBound.{upper_union}
use Rattle.vortex_stats.proofs.Merging.Constants.{constant_of_reordered}
use Rattle.vortex_stats.proofs.Merging.Extremes.{greatest_of_reordered}
use Rattle.vortex_stats.proofs.Sets.Lookups.{or_absent, entry_value-all_revised, has_entry-all_revised}
use Rattle.vortex_stats.proofs.Merging.MergedFits.{merged_unordered-fits}
use Rattle.vortex_stats.proofs.Truth.MergedTruth.{Tells, merged_value_tells, true_by_values}
use Rattle.vortex_stats.proofs.Merging.Sums.{sum_of_reordered}
use Rattle.vortex_stats.proofs.Bounds.ValueOrder.{value_total, same_from_equal}

-- ---- true of every reordering

null_count_of_reordered : (xs ys : List (Option ScalarValue)) → IsPermutation xs ys → null_count ys ≡ null_count xs
null_count_of_reordered xs ys m = sum_by-IsPermutation (λ x. cond (is_none x) 1 0) xs ys m

module _ (c e : ColumnData) (r : IsReordered c e) where
  constant_again : (p : Precision ScalarValue) → Claims IsConstant p c → Claims IsConstant p e
  constant_again p h = subst (ClaimsTruth p) (sym (constant_of_reordered c.values e.values r.values)) h

  sum_again : (p : Precision ScalarValue) → Claims Sum p c → Claims Sum p e
  sum_again p h = subst (ClaimsSum p) (sym (sum_of_reordered c.values e.values r.values)) h

  nulls_again : (p : Precision ScalarValue) → Claims NullCount p c → Claims NullCount p e
  nulls_again p h = subst (ClaimsCount p) (sym (null_count_of_reordered c.values e.values r.values)) h

  size_again : (p : Precision ScalarValue) → Claims UncompressedSizeInBytes p c → Claims UncompressedSizeInBytes p e
  size_again p h = subst (ClaimsCount p) (sym r.size) h

  told_again : (P Q : Precision ScalarValue → Type 0) → ((p : Precision ScalarValue) → P p → Q p) → (o : Option (Precision ScalarValue)) → MatchOption o ⊤ P → MatchOption o ⊤ Q
  told_again P Q f None h = tt
  told_again P Q f (Some p) h = f p h

  -- but for the order of the rows, a value is as true of the column in another order
  unordered_tells : (s : Stat) (a b : List (Stat × Precision ScalarValue)) → ((t : Stat) → Tells t c (merged_value t a b)) → Tells s e (unordered_value s a b)
  unordered_tells IsConstant a b h = told_again (λ p. Claims IsConstant p c) (λ p. Claims IsConstant p e) constant_again (merged_value IsConstant a b) (h IsConstant)
  unordered_tells IsSorted a b h = tt
  unordered_tells IsStrictSorted a b h = tt
  unordered_tells Max a b h =
      told_again (λ p. Claims Max p c) (λ p. Claims Max p e) (λ p k. greatest_of_reordered value_cmp p c.values e.values r.values k) (merged_value Max a b) (h Max)
  unordered_tells Min a b h =
      told_again (λ p. Claims Min p c) (λ p. Claims Min p e) (λ p k. greatest_of_reordered (flip_args value_cmp) p c.values e.values r.values k) (merged_value Min a b) (h Min)
  unordered_tells Sum a b h = told_again (λ p. Claims Sum p c) (λ p. Claims Sum p e) sum_again (merged_value Sum a b) (h Sum)
  unordered_tells NullCount a b h = told_again (λ p. Claims NullCount p c) (λ p. Claims NullCount p e) nulls_again (merged_value NullCount a b) (h NullCount)
  unordered_tells UncompressedSizeInBytes a b h =
      told_again (λ p. Claims UncompressedSizeInBytes p c) (λ p. Claims UncompressedSizeInBytes p e) size_again (merged_value UncompressedSizeInBytes a b) (h UncompressedSizeInBytes)
  unordered_tells NaNCount a b h = tt

pub merged_unordered_is_true : (a b : List (Stat × Precision ScalarValue)) (c d e : ColumnData) → c.dtype ≡ d.dtype → IsTrueOf a c → IsTrueOf b d → IsReordered (appended c d) e
    → IsTrueOf (merged_unordered a b) e
merged_unordered_is_true a b c d e k p q r =
    true_by_values (λ s. unordered_value s a b) a e
    (merged_unordered-fits e.dtype a b (subst (λ t. entries_fit a t ≡ true) (sym r.dtype) p.fits) (subst (λ t. entries_fit b t ≡ true) (sym k ∙ sym r.dtype) q.fits))
    (λ s. unordered_tells (appended c d) e r s a b (λ t. merged_value_tells t a b c d p.claims q.claims))

-- ---- without the statistics of order

module _ (a b : List (Stat × Precision ScalarValue)) where
  pub merged_unordered-not_sorted : has_entry IsSorted (merged_unordered a b) ≡ false
  merged_unordered-not_sorted = has_entry-all_revised (λ s. unordered_value s a b) IsSorted a

  pub merged_unordered-not_strict : has_entry IsStrictSorted (merged_unordered a b) ≡ false
  merged_unordered-not_strict = has_entry-all_revised (λ s. unordered_value s a b) IsStrictSorted a

-- ---- the other way round

or_back : (b c : Bool) → (b || c) ≡ (c || b)
or_back true true = refl
or_back true false = refl
or_back false true = refl
or_back false false = refl

and_back : (b c : Bool) → (b && c) ≡ (c && b)
and_back true true = refl
and_back true false = refl
and_back false true = refl
and_back false false = refl

minima_back : (m n : Precision ScalarValue) → same_minima m n ≡ same_minima n m
minima_back (Exact x) (Exact y) = ap (λ b. Some (truth b)) ((eq_by_cmp_equiv value_total).symm x y)
minima_back (Exact x) (Inexact y) = refl
minima_back (Exact x) Absent = refl
minima_back (Inexact x) (Exact y) = refl
minima_back (Inexact x) (Inexact y) = refl
minima_back (Inexact x) Absent = refl
minima_back Absent (Exact y) = refl
minima_back Absent (Inexact y) = refl
minima_back Absent Absent = refl

constant_back : (c d m n : Precision ScalarValue) → constant_merged c d m n ≡ constant_merged d c n m
constant_back c d m n =
    ap (λ b. cond b (Some (truth false)) (cond (is_exact_truth true c && is_exact_truth true d) (same_minima m n) None)) (or_back (is_exact_truth false c) (is_exact_truth false d))
    ∙ ap (λ b. cond (is_exact_truth false d || is_exact_truth false c) (Some (truth false)) (cond b (same_minima m n) None)) (and_back (is_exact_truth true c) (is_exact_truth true d))
    ∙ ap (λ o. cond (is_exact_truth false d || is_exact_truth false c) (Some (truth false)) (cond (is_exact_truth true d && is_exact_truth true c) o None)) (minima_back m n)

module _ {R : ScalarValue → ScalarValue → Ordering} (o : IsTotalOrder R) (same : (v w : ScalarValue) → R v w ≡ Equal → v ≡ w) where
  greater_back_by : (v w : ScalarValue) (c : Ordering) → R v w ≡ c → cond (is_lt c) w v ≡ cond (is_lt (R w v)) v w
  greater_back_by v w Less e = ap (λ d. cond (is_lt d) v w) (sym (o.antisymm w v ∙ ap ordering_reverse e))
  greater_back_by v w Equal e = same v w e ∙ ap (λ d. cond (is_lt d) v w) (sym (tied_back o v w e))
  greater_back_by v w Greater e = ap (λ d. cond (is_lt d) v w) (sym (o.antisymm w v ∙ ap ordering_reverse e))

  greater_back : (v w : ScalarValue) → greater R v w ≡ greater R w v
  greater_back v w = greater_back_by v w (R v w) refl

  union_back : (p q : Precision ScalarValue) → upper_union R p q ≡ upper_union R q p
  union_back (Exact v) (Exact w) = ap (λ u. Some (Exact u)) (greater_back v w)
  union_back (Exact v) (Inexact w) = refl
  union_back (Exact v) Absent = refl
  union_back (Inexact v) (Exact w) = refl
  union_back (Inexact v) (Inexact w) = ap (λ u. Some (Inexact u)) (greater_back v w)
  union_back (Inexact v) Absent = refl
  union_back Absent (Exact w) = refl
  union_back Absent (Inexact w) = refl
  union_back Absent Absent = refl

sum_added_back : (v w : ScalarValue) → sum_added v w ≡ sum_added w v
sum_added_back (value.Primitive (number.I64 m)) (value.Primitive (number.I64 n)) =
    let e : m +ℤ n ≡ n +ℤ m = omega (arith, ints) in
    ap (λ k. cond (int_le (least ptype.I64) k && int_le k (greatest ptype.I64)) (Some (Exact (value.Primitive (number.I64 k)))) None) e
sum_added_back (value.Primitive (number.U64 m)) (value.Primitive (number.U64 n)) =
    let e : m + n ≡ n + m = omega arith in
    ap (λ k. cond (nat_lt k (2 ^ 64)) (Some (Exact (value.Primitive (number.U64 k)))) None) e
sum_added_back v (value.Primitive (number.I64 n)) = refl
sum_added_back v w = refl

sum_back : (p q : Precision ScalarValue) → sum_merged p q ≡ sum_merged q p
sum_back (Exact v) (Exact w) = sum_added_back v w
sum_back (Exact v) (Inexact w) = refl
sum_back (Exact v) Absent = refl
sum_back (Inexact v) (Exact w) = refl
sum_back (Inexact v) (Inexact w) = refl
sum_back (Inexact v) Absent = refl
sum_back Absent (Exact w) = refl
sum_back Absent (Inexact w) = refl
sum_back Absent Absent = refl

count_added_back : (f : ScalarValue → Precision ScalarValue) (v w : ScalarValue) → count_added f v w ≡ count_added f w v
count_added_back f (value.Primitive (number.U64 m)) (value.Primitive (number.U64 n)) =
    let e : m + n ≡ n + m = omega arith in
    ap (λ k. cond (nat_lt k (2 ^ 64)) (Some (f (value.Primitive (number.U64 k)))) None) e
count_added_back f v (value.Primitive (number.U64 n)) = refl
count_added_back f v w = refl

count_back : (p q : Precision ScalarValue) → count_merged p q ≡ count_merged q p
count_back (Exact v) (Exact w) = count_added_back Exact v w
count_back (Exact v) (Inexact w) = count_added_back Inexact v w
count_back (Exact v) Absent = refl
count_back (Inexact v) (Exact w) = count_added_back Inexact v w
count_back (Inexact v) (Inexact w) = count_added_back Inexact v w
count_back (Inexact v) Absent = refl
count_back Absent (Exact w) = refl
count_back Absent (Inexact w) = refl
count_back Absent Absent = refl

unordered_value_back : (s : Stat) (a b : List (Stat × Precision ScalarValue)) → unordered_value s a b ≡ unordered_value s b a
unordered_value_back IsConstant a b = constant_back (entry_value IsConstant a) (entry_value IsConstant b) (entry_value Min a) (entry_value Min b)
unordered_value_back IsSorted a b = refl
unordered_value_back IsStrictSorted a b = refl
unordered_value_back Max a b = union_back value_total same_from_equal (entry_value Max a) (entry_value Max b)
unordered_value_back Min a b = union_back (reversed_total value_total) (λ v w e. sym (same_from_equal w v e)) (entry_value Min a) (entry_value Min b)
unordered_value_back Sum a b = sum_back (entry_value Sum a) (entry_value Sum b)
unordered_value_back NullCount a b = count_back (entry_value NullCount a) (entry_value NullCount b)
unordered_value_back UncompressedSizeInBytes a b = count_back (entry_value UncompressedSizeInBytes a) (entry_value UncompressedSizeInBytes b)
unordered_value_back NaNCount a b = refl

module _ (s : Stat) (a b : List (Stat × Precision ScalarValue)) where
  pub merged_unordered-same_value : entry_value s (merged_unordered a b) ≡ entry_value s (merged_unordered b a)
  merged_unordered-same_value =
      entry_value-all_revised (λ t. unordered_value t a b) s a ∙ ap or_absent (unordered_value_back s a b) ∙ sym (entry_value-all_revised (λ t. unordered_value t b a) s b)

  pub merged_unordered-same_entry : has_entry s (merged_unordered a b) ≡ has_entry s (merged_unordered b a)
  merged_unordered-same_entry =
      has_entry-all_revised (λ t. unordered_value t a b) s a ∙ ap is_some (unordered_value_back s a b) ∙ sym (has_entry-all_revised (λ t. unordered_value t b a) s b)
