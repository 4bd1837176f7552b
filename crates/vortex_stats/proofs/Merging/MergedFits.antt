-- Merged sets fit the type of their column again.
use Rattle.std.proofs.Common.{◌≡◌, ℕ, ◌+◌, ◌<◌, ◌^◌, Bool, true, false, cond, ◌&&◌, ◌||◌, List, [], Option, Some, None, refl, sym, ap, ◌∙◌, rules, arith}
use Rattle.std.proofs.lemmas.Bool.Decides.{nat_tests}
use Rattle.std.specs.Prelude.{IfSome, ◌==◌, nat_lt, ⊤, ℤ, ◌+ℤ◌, int_le}
use Rattle.std.specs.declared.cmp.Ordering.{Ordering}
use Rattle.std.specs.Ordering.{is_lt, flip_args}
use mathlib.Core.Bool.{true≢false}
use Rattle.vortex_base.specs.declared.dtype.DType.{DType}
use Rattle.vortex_base.specs.declared.dtype.DType.TheVariants as dtype
use Rattle.vortex_base.specs.declared.pvalue.PValue.{PValue}
use Rattle.vortex_base.specs.declared.pvalue.PValue.TheVariants as number
use Rattle.vortex_base.specs.declared.types.PType.TheVariants as ptype
use Rattle.vortex_base.specs.declared.scalar_value.ScalarValue.{ScalarValue}
use Rattle.vortex_base.specs.declared.scalar_value.ScalarValue.TheVariants as value
use Rattle.vortex_base.specs.Data.Types.{ptype_index}
use Rattle.vortex_base.specs.Data.Values.{value_cmp, in_range, ptype_of, least, greatest}
use Rattle.vortex_stats.specs.declared.stat.Stat.{Stat}
use Rattle.vortex_stats.specs.declared.stat.Stat.TheVariants.{IsConstant, IsSorted, IsStrictSorted, Max, Min, Sum, NullCount, UncompressedSizeInBytes, NaNCount}
use Rattle.vortex_stats.specs.declared.precision.Precision.{Precision}
use Rattle.vortex_stats.specs.declared.precision.Precision.TheVariants.{Exact, Inexact, Absent}
use Rattle.vortex_stats.specs.Stat.{stat_dtype}
use Rattle.vortex_stats.specs.Precision.{present_value}
use Rattle.vortex_stats.specs.Sets.Entries.{entry_value, is_value_of, value_fits, entries_fit}
use Rattle.vortex_stats.specs.Bounds.LowerBound.{lower_union}
use Rattle.vortex_stats.specs.Bounds.UpperBound.{upper_union}
use Rattle.vortex_stats.specs.Merging.Merges.{truth, is_exact_truth, same_minima, constant_merged, at_seam, order_merged, is_at_most, is_below, sum_added, sum_merged, count_added, count_merged, merged_value, unordered_value, revised, all_revised, merged_ordered, merged_unordered}
use Rattle.vortex_stats.proofs.Sets.Fitting.{entry_value-fits, entries_fit_with_entry, entries_fit_filter}
use Rattle.vortex_stats.proofs.Logic.{and_both, and_first, either}

module _ (P : Precision ScalarValue → Type 0) where
  abbrev IfNew : Option (Precision ScalarValue) → Type 0
  IfNew o = IfSome o P

  -- a union is one of its operands
  upper_union-either : (R : ScalarValue → ScalarValue → Ordering) (p q : Precision ScalarValue) → P p → P q → IfNew (upper_union R p q)
  upper_union-either R (Exact a) (Exact b) h k = either (λ v. P (Exact v)) (is_lt (R a b)) b a k h
  upper_union-either R (Exact e) (Inexact i) h k = either P (is_lt (R e i)) (Inexact i) (Exact e) k h
  upper_union-either R (Exact e) Absent h k = tt
  upper_union-either R (Inexact i) (Exact e) h k = either P (is_lt (R e i)) (Inexact i) (Exact e) h k
  upper_union-either R (Inexact a) (Inexact b) h k = either (λ v. P (Inexact v)) (is_lt (R a b)) b a k h
  upper_union-either R (Inexact i) Absent h k = tt
  upper_union-either R Absent q h k = tt

  lower_union-either : (R : ScalarValue → ScalarValue → Ordering) (p q : Precision ScalarValue) → P p → P q → IfNew (lower_union R p q)
  lower_union-either R = upper_union-either (flip_args R)

  -- truth values alone
  module _ (exact : (b : Bool) → P (truth b)) (unknown : P (Inexact (value.Bool false))) where
    same_minima-truth : (p q : Precision ScalarValue) → IfNew (same_minima p q)
    same_minima-truth (Exact x) (Exact y) = exact _
    same_minima-truth (Exact x) (Inexact y) = tt
    same_minima-truth (Exact x) Absent = tt
    same_minima-truth (Inexact x) q = tt
    same_minima-truth Absent q = tt

    constant_merged-truth : (c d m n : Precision ScalarValue) → IfNew (constant_merged c d m n)
    constant_merged-truth c d m n =
        either IfNew (is_exact_truth false c || is_exact_truth false d) (Some (truth false)) (cond (is_exact_truth true c && is_exact_truth true d) (same_minima m n) None) (exact false)
        (either IfNew (is_exact_truth true c && is_exact_truth true d) (same_minima m n) None (same_minima-truth m n) tt)

    at_seam-truth : (test : ScalarValue → ScalarValue → Bool) (v w : Option ScalarValue) → IfNew (at_seam test v w)
    at_seam-truth test (Some v) (Some w) = either P (test v w) (truth true) (Inexact (value.Bool false)) (exact true) unknown
    at_seam-truth test (Some v) None = tt
    at_seam-truth test None w = tt

    order_merged-truth : (test : ScalarValue → ScalarValue → Bool) (c d max min : Precision ScalarValue) → IfNew (order_merged test c d max min)
    order_merged-truth test c d max min =
        either IfNew (is_exact_truth true c && is_exact_truth true d) (at_seam test (present_value max) (present_value min)) None (at_seam-truth test (present_value max) (present_value min)) tt

  -- a sum under a test of it
  tested : (b : Bool) (p : Precision ScalarValue) → (b ≡ true → P p) → IfNew (cond b (Some p) None)
  tested true p h = h refl
  tested false p h = tt

  count_added-counts : (case : ScalarValue → Precision ScalarValue) → ((n : ℕ) → n < 2 ^ 64 → P (case (value.Primitive (number.U64 n)))) → (v w : ScalarValue) → IfNew (count_added case v w)
  count_added-counts case h (value.Primitive (number.U64 m)) (value.Primitive (number.U64 n)) =
      tested (nat_lt (m + n) (2 ^ 64)) (case (value.Primitive (number.U64 (m + n)))) (λ e. h (m + n) (grind (arith, nat_tests)))
  count_added-counts case h v w = tt

  count_merged-counts : ((n : ℕ) → n < 2 ^ 64 → P (Exact (value.Primitive (number.U64 n)))) → ((n : ℕ) → n < 2 ^ 64 → P (Inexact (value.Primitive (number.U64 n))))
      → (p q : Precision ScalarValue) → IfNew (count_merged p q)
  count_merged-counts h k (Exact v) (Exact w) = count_added-counts Exact h v w
  count_merged-counts h k (Exact v) (Inexact w) = count_added-counts Inexact k v w
  count_merged-counts h k (Exact v) Absent = tt
  count_merged-counts h k (Inexact v) (Exact w) = count_added-counts Inexact k v w
  count_merged-counts h k (Inexact v) (Inexact w) = count_added-counts Inexact k v w
  count_merged-counts h k (Inexact v) Absent = tt
  count_merged-counts h k Absent q = tt

-- ---- numbers of a type

count_in_range : (n : ℕ) → n < 2 ^ 64 → in_range (number.U64 n) ≡ true
count_in_range n h = search rules

-- a number in range of the type of another is a value of that one's type
same_type : (o : Option DType) (p q : PValue) → ptype_of q ≡ ptype_of p → is_value_of o (value.Primitive p) ≡ true → in_range q ≡ true → is_value_of o (value.Primitive q) ≡ true
same_type None p q e h r = absurd (true≢false (sym h))
same_type (Some (dtype.Primitive t n)) p q e h r =
    and_both (ptype_index (ptype_of q) == ptype_index t) (in_range q) (ap (λ u. ptype_index u == ptype_index t) e ∙ and_first (ptype_index (ptype_of p) == ptype_index t) (in_range p) h) r
same_type (Some t) p q e h r = absurd (true≢false (sym h))

sum_added-fits : (t : DType) (v w : ScalarValue) → is_value_of (stat_dtype Sum t) v ≡ true → IfSome (sum_added v w) (λ p. value_fits Sum t p ≡ true)
sum_added-fits t (value.Primitive (number.I64 m)) (value.Primitive (number.I64 n)) h =
    tested (λ p. value_fits Sum t p ≡ true) (int_le (least ptype.I64) (m +ℤ n) && int_le (m +ℤ n) (greatest ptype.I64)) (Exact (value.Primitive (number.I64 (m +ℤ n))))
    (λ e. same_type (stat_dtype Sum t) (number.I64 m) (number.I64 (m +ℤ n)) refl h e)
sum_added-fits t (value.Primitive (number.U64 m)) (value.Primitive (number.U64 n)) h =
    tested (λ p. value_fits Sum t p ≡ true) (nat_lt (m + n) (2 ^ 64)) (Exact (value.Primitive (number.U64 (m + n))))
    (λ e. same_type (stat_dtype Sum t) (number.U64 m) (number.U64 (m + n)) refl h (count_in_range (m + n) (grind (arith, nat_tests))))
sum_added-fits t v w h = tt

sum_merged-fits : (t : DType) (p q : Precision ScalarValue) → value_fits Sum t p ≡ true → IfSome (sum_merged p q) (λ p. value_fits Sum t p ≡ true)
sum_merged-fits t (Exact v) (Exact w) h = sum_added-fits t v w h
sum_merged-fits t p q h = tt

-- ---- sets

-- a new value of a statistic fits
abbrev pub NewFits : DType → Stat → Option (Precision ScalarValue) → Type 0
NewFits t s o = IfSome o (λ p. value_fits s t p ≡ true)

pub merged_value-fits : (t : DType) (left other : List (Stat × Precision ScalarValue)) → entries_fit left t ≡ true → entries_fit other t ≡ true
    → (s : Stat) → NewFits t s (merged_value s left other)
merged_value-fits t left other h k IsConstant =
    constant_merged-truth (λ p. value_fits IsConstant t p ≡ true) (λ b. refl) refl (entry_value IsConstant left) (entry_value IsConstant other) (entry_value Min left) (entry_value Min other)
merged_value-fits t left other h k IsSorted =
    order_merged-truth (λ p. value_fits IsSorted t p ≡ true) (λ b. refl) refl is_at_most (entry_value IsSorted left) (entry_value IsSorted other) (entry_value Max left) (entry_value Min other)
merged_value-fits t left other h k IsStrictSorted =
    order_merged-truth (λ p. value_fits IsStrictSorted t p ≡ true) (λ b. refl) refl is_below
    (entry_value IsStrictSorted left) (entry_value IsStrictSorted other) (entry_value Max left) (entry_value Min other)
merged_value-fits t left other h k Max =
    upper_union-either (λ p. value_fits Max t p ≡ true) value_cmp (entry_value Max left) (entry_value Max other) (entry_value-fits Max t left h) (entry_value-fits Max t other k)
merged_value-fits t left other h k Min =
    lower_union-either (λ p. value_fits Min t p ≡ true) value_cmp (entry_value Min left) (entry_value Min other) (entry_value-fits Min t left h) (entry_value-fits Min t other k)
merged_value-fits t left other h k Sum = sum_merged-fits t (entry_value Sum left) (entry_value Sum other) (entry_value-fits Sum t left h)
merged_value-fits t left other h k NullCount =
    count_merged-counts (λ p. value_fits NullCount t p ≡ true) count_in_range count_in_range (entry_value NullCount left) (entry_value NullCount other)
merged_value-fits t left other h k UncompressedSizeInBytes =
    count_merged-counts (λ p. value_fits UncompressedSizeInBytes t p ≡ true) count_in_range count_in_range (entry_value UncompressedSizeInBytes left) (entry_value UncompressedSizeInBytes other)
merged_value-fits t left other h k NaNCount = tt

unordered_value-fits : (t : DType) (left other : List (Stat × Precision ScalarValue)) → entries_fit left t ≡ true → entries_fit other t ≡ true
    → (s : Stat) → NewFits t s (unordered_value s left other)
unordered_value-fits t left other h k IsConstant = merged_value-fits t left other h k IsConstant
unordered_value-fits t left other h k IsSorted = tt
unordered_value-fits t left other h k IsStrictSorted = tt
unordered_value-fits t left other h k Max = merged_value-fits t left other h k Max
unordered_value-fits t left other h k Min = merged_value-fits t left other h k Min
unordered_value-fits t left other h k Sum = merged_value-fits t left other h k Sum
unordered_value-fits t left other h k NullCount = merged_value-fits t left other h k NullCount
unordered_value-fits t left other h k UncompressedSizeInBytes = merged_value-fits t left other h k UncompressedSizeInBytes
unordered_value-fits t left other h k NaNCount = tt

revised-fits : (t : DType) (s : Stat) (o : Option (Precision ScalarValue)) (es : List (Stat × Precision ScalarValue)) → NewFits t s o → entries_fit es t ≡ true → entries_fit (revised s o es) t ≡ true
revised-fits t s (Some p) es f h = entries_fit_with_entry s p t es f h
revised-fits t s None es f h = entries_fit_filter _ t es h

all_revised-fits : (t : DType) (v : Stat → Option (Precision ScalarValue)) (es : List (Stat × Precision ScalarValue)) → ((s : Stat) → NewFits t s (v s)) → entries_fit es t ≡ true
    → entries_fit (all_revised v es) t ≡ true
all_revised-fits t v es f h =
    revised-fits t NaNCount (v NaNCount) _ (f NaNCount) (revised-fits t UncompressedSizeInBytes (v UncompressedSizeInBytes) _ (f UncompressedSizeInBytes)
    (revised-fits t NullCount (v NullCount) _ (f NullCount) (revised-fits t Sum (v Sum) _ (f Sum) (revised-fits t Min (v Min) _ (f Min) (revised-fits t Max (v Max) _ (f Max)
    (revised-fits t IsStrictSorted (v IsStrictSorted) _ (f IsStrictSorted) (revised-fits t IsSorted (v IsSorted) _ (f IsSorted) (revised-fits t IsConstant (v IsConstant) es (f IsConstant) h))))))))

pub merged_ordered-fits : (t : DType) (left other : List (Stat × Precision ScalarValue)) → entries_fit left t ≡ true → entries_fit other t ≡ true → entries_fit (merged_ordered left other) t ≡ true
merged_ordered-fits t left other h k = all_revised-fits t (λ s. merged_value s left other) left (merged_value-fits t left other h k) h

pub merged_unordered-fits : (t : DType) (left other : List (Stat × Precision ScalarValue)) → entries_fit left t ≡ true → entries_fit other t ≡ true → entries_fit (merged_unordered left other) t ≡ true
merged_unordered-fits t left other h k = all_revised-fits t (λ s. unordered_value s left other) left (unordered_value-fits t left other h k) h
