-- Two sets that are true of one column never contradict each other, and combine to one that is true of it.
use Rattle.std.proofs.Common.{◌≡◌, Bool, true, false, cond, List, [], ◌∷◌, Option, Some, None, refl, sym, ap, subst, ◌∙◌}
use Rattle.std.specs.Prelude.{MatchOption, IsTrue, ◌==◌, ⊤}
use Rattle.std.specs.declared.cmp.Ordering.{Ordering}
use Rattle.std.specs.declared.cmp.Ordering.TheVariants.{Equal}
use Rattle.std.specs.Ordering.{is_lt, is_eq, flip_args}
use Rattle.std.specs.Cmp.{tied_itself}
use Rattle.std.proofs.lemmas.Bool.{and_parts, eqb-true}
use mathlib.Core.Bool.{true≢false}
use Rattle.vortex_base.specs.declared.dtype.DType.{DType}
use Rattle.vortex_base.specs.declared.dtype.DType.TheVariants as dtype
use Rattle.vortex_base.specs.declared.types.Nullability.{Nullability}
use Rattle.vortex_base.specs.declared.types.PType.{PType}
use Rattle.vortex_base.specs.declared.types.PType.TheVariants as ptype
use Rattle.vortex_base.specs.declared.scalar_value.ScalarValue.{ScalarValue}
use Rattle.vortex_base.specs.declared.scalar_value.ScalarValue.TheVariants as value
use Rattle.vortex_base.specs.Data.Columns.{ColumnData}
use Rattle.vortex_base.specs.Data.Types.{ptype_index}
use Rattle.vortex_base.specs.Data.Values.{ptype_of, in_range, is_value, whole, value_cmp}
use Rattle.vortex_stats.specs.declared.bound.IntersectionResult.{IntersectionResult}
use Rattle.vortex_stats.specs.declared.bound.IntersectionResult.TheVariants.{Value, Empty}
use Rattle.vortex_stats.specs.declared.stat.Stat.{Stat}
use Rattle.vortex_stats.specs.declared.stat.Stat.TheVariants.{IsConstant, IsSorted, IsStrictSorted, Max, Min, Sum, NullCount, UncompressedSizeInBytes, NaNCount}
use Rattle.vortex_stats.specs.declared.precision.Precision.{Precision}
use Rattle.vortex_stats.specs.declared.precision.Precision.TheVariants.{Exact, Inexact, Absent}
use Rattle.vortex_stats.specs.Bounds.Bound.{MatchIntersection}
use Rattle.vortex_stats.specs.Sets.Claims.{Claims, ClaimsTruth, IsTrueOf}
use Rattle.vortex_stats.specs.Merging.Combined.{Outcome, intersection_of, met, combined_by, combined_entry, or_conflict, combined}
use Rattle.vortex_stats.specs.Sets.Entries.{entry_value, is_value_of, value_fits, AreDistinct}
use Rattle.vortex_stats.specs.Bounds.Order.{reversed_total}
use Rattle.vortex_stats.specs.Bounds.PointBound.{point_intersection}
use Rattle.vortex_stats.specs.Precision.{is_present}
use Rattle.vortex_stats.specs.Stat.{sum_dtype, sum_ptype}
use Rattle.vortex_stats.specs.Bounds.UpperBound.{upper_intersection}
use Rattle.vortex_stats.proofs.Merging.Counts.{count_of_intersection}
use Rattle.vortex_stats.proofs.Truth.EntryClaims.{first_claims, first_fits, rest_is_true}
use Rattle.vortex_stats.proofs.Merging.Extremes.{greatest_of_intersection}
use Rattle.vortex_stats.proofs.Sets.Fitting.{entry_value-fits}
use Rattle.vortex_stats.proofs.Truth.KeptTruth.{without_entry_is_true, with_entry_is_true}
use Rattle.vortex_stats.proofs.Bounds.ValueOrder.{value_total, same_from_parts}

-- there is no contradiction, and the intersection, if there is one, has P
abbrev Meets : (Precision ScalarValue → Type 0) → Option (IntersectionResult (Precision ScalarValue)) → Type 0
Meets P o = MatchOption o ⊤ (λ m. MatchIntersection m ⊥ P)

-- the intersection, if there is one, has P
abbrev Allows : (Precision ScalarValue → Type 0) → Option (IntersectionResult (Precision ScalarValue)) → Type 0
Allows P o = MatchOption o ⊤ (λ m. MatchIntersection m ⊤ P)

both_of : (P Q : Precision ScalarValue → Type 0) (o : Option (IntersectionResult (Precision ScalarValue))) → Meets P o → Allows Q o → Meets (λ r. P r × Q r) o
both_of P Q None h k = tt
both_of P Q (Some Empty) h k = h
both_of P Q (Some (Value r)) h k = (h, k)

-- ---- types

module _ (s : Stat) (t : DType) where
  abbrev Fit : Precision ScalarValue → Type 0
  Fit p = value_fits s t p ≡ true

  same_or_empty : (c : Bool) (v : ScalarValue) → Fit (Exact v) → MatchIntersection (cond c (Value (Exact v)) Empty) ⊤ Fit
  same_or_empty true v p = p
  same_or_empty false v p = tt

  empty_or_same : (c : Bool) (v : ScalarValue) → Fit (Exact v) → MatchIntersection (cond c Empty (Value (Exact v))) ⊤ Fit
  empty_or_same true v p = tt
  empty_or_same false v p = p

  either_inexact : (c : Bool) (v w : ScalarValue) → Fit (Inexact v) → Fit (Inexact w) → Fit (Inexact (cond c w v))
  either_inexact true v w p q = q
  either_inexact false v w p q = p

  upper_fits : (R : ScalarValue → ScalarValue → Ordering) (p q : Precision ScalarValue) → Fit p → Fit q → Allows Fit (upper_intersection R p q)
  upper_fits R (Exact v) (Exact w) p q = same_or_empty (is_eq (R v w)) v p
  upper_fits R (Exact v) (Inexact w) p q = empty_or_same (is_lt (R w v)) v p
  upper_fits R (Exact v) Absent p q = tt
  upper_fits R (Inexact v) (Exact w) p q = empty_or_same (is_lt (R v w)) w q
  upper_fits R (Inexact v) (Inexact w) p q = either_inexact (is_lt (R w v)) v w p q
  upper_fits R (Inexact v) Absent p q = tt
  upper_fits R Absent q p h = tt

-- ---- points

-- exact values that both have P are the same
module _ (P : Precision ScalarValue → Type 0) (looser : (v : ScalarValue) → P (Exact v) → P (Inexact v)) (same : (v w : ScalarValue) → P (Exact v) → P (Exact w) → v ≡ w) where
  exact_point : (v w : ScalarValue) → P (Exact v) → P (Exact w) → Meets P (point_intersection value_cmp (Exact v) (Exact w))
  exact_point v w p q =
      let tied : value_cmp v w ≡ Equal = ap (value_cmp v) (sym (same v w p q)) ∙ tied_itself value_total v in
      subst (λ c. MatchIntersection (cond (is_eq c) (Value (Exact v)) Empty) ⊥ P) (sym tied) p

  mixed_point : (c : Bool) (v : ScalarValue) → P (Exact v) → P (cond c (Inexact v) (Exact v))
  mixed_point true v p = looser v p
  mixed_point false v p = p

  either_point : (c : Bool) (v w : ScalarValue) → P (Inexact v) → P (Inexact w) → P (Inexact (cond c w v))
  either_point true v w p q = q
  either_point false v w p q = p

  point_meets : (p q : Precision ScalarValue) → IsTrue (is_present p) → IsTrue (is_present q) → P p → P q → Meets P (point_intersection value_cmp p q)
  point_meets (Exact v) (Exact w) d e p q = exact_point v w p q
  point_meets (Exact v) (Inexact w) d e p q = mixed_point (is_lt (value_cmp v w)) v p
  point_meets (Exact v) Absent d e p q = absurd (true≢false (sym e))
  point_meets (Inexact v) (Exact w) d e p q = mixed_point (is_lt (value_cmp w v)) w q
  point_meets (Inexact v) (Inexact w) d e p q = either_point (is_lt (value_cmp w v)) v w p q
  point_meets (Inexact v) Absent d e p q = absurd (true≢false (sym e))
  point_meets Absent q d e p h = absurd (true≢false (sym d))

-- ---- sums

-- numbers of one type that are the same whole number are the same value
same_in_type : (t : PType) (n : Nullability) (v w : ScalarValue) → is_value v (dtype.Primitive t n) ≡ true → is_value w (dtype.Primitive t n) ≡ true → whole v ≡ whole w → v ≡ w
same_in_type t n (value.Primitive x) (value.Primitive y) h k e =
    let first = and_parts (ptype_index (ptype_of x) == ptype_index t) (in_range x) h in
    let second = and_parts (ptype_index (ptype_of y) == ptype_index t) (in_range y) k in
    same_from_parts (value.Primitive x) (value.Primitive y) refl
    (eqb-true (ptype_index (ptype_of x)) (ptype_index t) first.0 ∙ sym (eqb-true (ptype_index (ptype_of y)) (ptype_index t) second.0)) e refl
same_in_type t n (value.Primitive x) w h k e = absurd (true≢false (sym k))
same_in_type t n v w h k e = absurd (true≢false (sym h))

same_sums : (t : DType) (v w : ScalarValue) → is_value_of (sum_dtype t) v ≡ true → is_value_of (sum_dtype t) w ≡ true → whole v ≡ whole w → v ≡ w
same_sums (dtype.Bool n) v w h k e = same_in_type ptype.U64 _ v w h k e
same_sums (dtype.Primitive p n) v w h k e = same_in_type (sum_ptype p) _ v w h k e
same_sums t v w h k e = absurd (true≢false (sym h))

-- ---- each statistic

module _ (c : ColumnData) where
  -- the value fits and has its claim
  abbrev Tells : Stat → Precision ScalarValue → Type 0
  Tells s p = Claims s p c × (value_fits s c.dtype p ≡ true)

  truth_meets : (b : Bool) (s : Stat) (p q : Precision ScalarValue) → IsTrue (is_present p) → IsTrue (is_present q)
      → ClaimsTruth p b × (value_fits s c.dtype p ≡ true) → ClaimsTruth q b × (value_fits s c.dtype q ≡ true)
      → Meets (λ r. ClaimsTruth r b × (value_fits s c.dtype r ≡ true)) (point_intersection value_cmp p q)
  truth_meets b s p q d e h k = point_meets (λ r. ClaimsTruth r b × (value_fits s c.dtype r ≡ true)) (λ v u. (tt, u.1)) (λ v w u x. u.0 ∙ sym x.0) p q d e h k

  no_count : (v : ScalarValue) → value_fits NaNCount c.dtype (Exact v) ≡ true → ⊥
  no_count v h = true≢false (sym h)

  nan_meets : (p q : Precision ScalarValue) → IsTrue (is_present p) → Tells NaNCount p → Meets (Tells NaNCount) (upper_intersection value_cmp p q)
  nan_meets (Exact v) q d h = absurd (true≢false (sym h.1))
  nan_meets (Inexact v) q d h = absurd (true≢false (sym h.1))
  nan_meets Absent q d h = absurd (true≢false (sym d))

  -- two present values that are true of the column do not contradict each other, and their intersection is true of it
  intersection_meets : (s : Stat) (p q : Precision ScalarValue) → IsTrue (is_present p) → IsTrue (is_present q) → Tells s p → Tells s q → Meets (Tells s) (intersection_of s p q)
  intersection_meets IsConstant p q d e h k = truth_meets _ IsConstant p q d e h k
  intersection_meets IsSorted p q d e h k = truth_meets _ IsSorted p q d e h k
  intersection_meets IsStrictSorted p q d e h k = truth_meets _ IsStrictSorted p q d e h k
  intersection_meets Max p q d e h k =
      both_of (λ r. Claims Max r c) (Fit Max c.dtype) (upper_intersection value_cmp p q)
      (greatest_of_intersection value_total p q c.values h.0 k.0) (upper_fits Max c.dtype value_cmp p q h.1 k.1)
  intersection_meets Min p q d e h k =
      both_of (λ r. Claims Min r c) (Fit Min c.dtype) (intersection_of Min p q)
      (greatest_of_intersection (reversed_total value_total) p q c.values h.0 k.0) (upper_fits Min c.dtype (flip_args value_cmp) p q h.1 k.1)
  intersection_meets Sum p q d e h k =
      point_meets (Tells Sum) (λ v u. (tt, u.1)) (λ v w u x. same_sums c.dtype v w u.1 x.1 (u.0 ∙ sym x.0)) p q d e h k
  intersection_meets NullCount p q d e h k =
      both_of (λ r. Claims NullCount r c) (Fit NullCount c.dtype) (upper_intersection value_cmp p q)
      (count_of_intersection p q _ h.0 k.0) (upper_fits NullCount c.dtype value_cmp p q h.1 k.1)
  intersection_meets UncompressedSizeInBytes p q d e h k =
      both_of (λ r. Claims UncompressedSizeInBytes r c) (Fit UncompressedSizeInBytes c.dtype) (upper_intersection value_cmp p q)
      (count_of_intersection p q _ h.0 k.0) (upper_fits UncompressedSizeInBytes c.dtype value_cmp p q h.1 k.1)
  intersection_meets NaNCount p q d e h k = nan_meets p q d h

  -- ---- each entry

  -- there is a list, and it is true of the column
  abbrev IsTrueList : Option (List (Stat × Precision ScalarValue)) → Type 0
  IsTrueList o = MatchOption o ⊥ (λ es. IsTrueOf es c)

  met_is_true : (s : Stat) (o : Option (IntersectionResult (Precision ScalarValue))) (es : List (Stat × Precision ScalarValue)) → IsTrueOf es c → Meets (Tells s) o → IsTrueList (met s o es)
  met_is_true s (Some (Value p)) es h k = with_entry_is_true s p es c h k.1 k.0
  met_is_true s (Some Empty) es h k = absurd k
  met_is_true s None es h k = h

  combined_by_is_true : (s : Stat) (p q : Precision ScalarValue) (es : List (Stat × Precision ScalarValue)) → IsTrueOf es c → Tells s p → Tells s q → IsTrueList (combined_by s p q es)
  combined_by_is_true s Absent Absent es h p q = without_entry_is_true s es c h
  combined_by_is_true s Absent (Exact v) es h p q = with_entry_is_true s (Exact v) es c h q.1 q.0
  combined_by_is_true s Absent (Inexact v) es h p q = with_entry_is_true s (Inexact v) es c h q.1 q.0
  combined_by_is_true s (Exact v) Absent es h p q = h
  combined_by_is_true s (Inexact v) Absent es h p q = h
  combined_by_is_true s (Exact v) (Exact w) es h p q = met_is_true s (intersection_of s (Exact v) (Exact w)) es h (intersection_meets s (Exact v) (Exact w) refl refl p q)
  combined_by_is_true s (Exact v) (Inexact w) es h p q = met_is_true s (intersection_of s (Exact v) (Inexact w)) es h (intersection_meets s (Exact v) (Inexact w) refl refl p q)
  combined_by_is_true s (Inexact v) (Exact w) es h p q = met_is_true s (intersection_of s (Inexact v) (Exact w)) es h (intersection_meets s (Inexact v) (Exact w) refl refl p q)
  combined_by_is_true s (Inexact v) (Inexact w) es h p q = met_is_true s (intersection_of s (Inexact v) (Inexact w)) es h (intersection_meets s (Inexact v) (Inexact w) refl refl p q)

  -- ---- the whole list

  -- nothing contradicted, and the entries are true
  abbrev pub Agrees : Outcome → Type 0
  Agrees o = (o.conflict ≡ None) × IsTrueOf o.entries c

  or_conflict_agrees : (o : Option (List (Stat × Precision ScalarValue))) (es : List (Stat × Precision ScalarValue)) (s : Stat) (rest : List (Stat × Precision ScalarValue) → Outcome)
      → IsTrueList o → ((new : List (Stat × Precision ScalarValue)) → IsTrueOf new c → Agrees (rest new)) → Agrees (or_conflict o es s rest)
  or_conflict_agrees None es s rest h f = absurd h
  or_conflict_agrees (Some new) es s rest h f = f new h

  pub combined_is_true : (es other : List (Stat × Precision ScalarValue)) → AreDistinct other → IsTrueOf es c → IsTrueOf other c → Agrees (combined es other)
  combined_is_true es [] d h k = (refl, h)
  combined_is_true es (e ∷ more) d h k =
      or_conflict_agrees (combined_entry es e) es e.0 (λ new. combined new more)
      (combined_by_is_true e.0 (entry_value e.0 es) e.1 es h (h.claims e.0, entry_value-fits e.0 c.dtype es h.fits) (first_claims c e more k, first_fits c e more k))
      (λ new n. combined_is_true new more d.1 n (rest_is_true c e more k d.0))
