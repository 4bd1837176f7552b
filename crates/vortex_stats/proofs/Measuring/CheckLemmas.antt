-- The test of what a statistic claims decides the claim.
use Rattle.std.proofs.Common.{◌≡◌, ℕ, ◌≤◌, Bool, true, false, zero, suc, cond, List, [], ◌∷◌, Option, Some, None, refl, sym, ap, subst, ◌∙◌, ⊎_elim, inl, inr, Decides, arith}
use Rattle.std.specs.Prelude.{◌⊎◌, Contains, ⊤}
use Rattle.std.specs.declared.cmp.Ordering.{Ordering}
use Rattle.std.specs.Cmp.{Equal-is, IsTotalOrder, tied_itself}
use Rattle.std.specs.Ordering.{is_eq, is_gt, is_lt}
use Rattle.std.proofs.lemmas.Bool.{eq-eqb, eqb-true, le-leb, leb-true, not-true, not_from_false}
use Rattle.std.specs.List.{list_all}
use Rattle.std.proofs.lemmas.List.Elements.{All-contains, All-contains_itself, All-weaker}
use Rattle.std.proofs.lemmas.List.Sums.{AllPass-from_list_all, list_all-from_AllPass}
use mathlib.Core.Bool.{true≢false}
use Rattle.vortex_base.specs.declared.dtype.DType.{DType}
use Rattle.vortex_base.specs.declared.dtype.DType.TheVariants as dtype
use Rattle.vortex_base.specs.declared.types.Nullability.TheVariants.{NonNullable, Nullable}
use Rattle.vortex_base.specs.declared.types.PType.{PType}
use Rattle.vortex_base.specs.declared.types.PType.TheVariants as ptype
use Rattle.vortex_base.specs.declared.pvalue.PValue.TheVariants as number
use Rattle.vortex_base.specs.declared.scalar_value.ScalarValue.{ScalarValue}
use Rattle.vortex_base.specs.declared.scalar_value.ScalarValue.TheVariants as value
use Rattle.vortex_base.specs.Data.Columns.{ColumnData}
use Rattle.vortex_base.specs.Data.Values.{is_value, value_cmp, whole}
use Rattle.vortex_stats.specs.declared.stat.Stat.{Stat}
use Rattle.vortex_stats.specs.declared.stat.Stat.TheVariants.{IsConstant, IsSorted, IsStrictSorted, Max, Min, Sum, NullCount, UncompressedSizeInBytes, NaNCount}
use Rattle.vortex_stats.specs.declared.precision.Precision.{Precision}
use Rattle.vortex_stats.specs.declared.precision.Precision.TheVariants.{Exact, Inexact, Absent}
use Rattle.vortex_stats.specs.Bounds.Order.{AtMost, AtMost-refl, AtMost-trans, greater, greater-above, reversed_total}
use Rattle.vortex_stats.specs.Measuring.Checks.{allows, allows_count, allows_max, allows_min, allows_sum, allows_truth}
use Rattle.vortex_stats.specs.Measuring.Measured.{max_value, measured_value, min_value, number_in}
use Rattle.vortex_stats.specs.Merging.Merges.{is_exact_truth}
use Rattle.vortex_stats.specs.Sets.Claims.{Claims, ClaimsCount, ClaimsMax, ClaimsMin, ClaimsSum, ClaimsTruth, IsTrueOf, NoneAbove, NoneBelow, count_value, present, sum_of}
use Rattle.vortex_stats.specs.Sets.Entries.{AreDistinct, entries_fit, is_value_of, value_fits}
use Rattle.vortex_stats.specs.Stat.{stat_dtype, sum_ptype}
use Rattle.vortex_stats.proofs.Truth.EntryClaims.{true_by_entry}
use Rattle.vortex_stats.proofs.Bounds.Ascending.{contains_first, contains_later}
use Rattle.vortex_stats.proofs.Bounds.ValueOrder.{value_total, same_from_equal}
use Rattle.vortex_stats.proofs.Measuring.MeasureLemmas.{greatest_is, least_is}
use Rattle.vortex_stats.proofs.Measuring.MeasuredTruth.{greatest_claims, least_claims, number_fits}
use Rattle.vortex_stats.proofs.Merging.Constants.{inner}

-- ---- truths

truth_allowed : (b c : Bool) → is_exact_truth c (Exact (value.Bool b)) ≡ true → b ≡ c
truth_allowed true true h = refl
truth_allowed false false h = refl
truth_allowed true false h = absurd (true≢false (sym h))
truth_allowed false true h = absurd (true≢false (sym h))

truth_itself : (c : Bool) → is_exact_truth c (Exact (value.Bool c)) ≡ true
truth_itself true = refl
truth_itself false = refl

exact_truth : (v : ScalarValue) (c : Bool) → is_exact_truth c (Exact v) ≡ true → v ≡ value.Bool c
exact_truth (value.Bool b) c h = ap value.Bool (truth_allowed b c h)
exact_truth v true h = absurd (true≢false (sym h))
exact_truth v false h = absurd (true≢false (sym h))

truth_decides : (p : Precision ScalarValue) (c : Bool) → Decides (allows_truth p c) (ClaimsTruth p c)
truth_decides (Exact v) c = (λ h. exact_truth v c h, λ e. subst (λ u. is_exact_truth c (Exact u) ≡ true) (sym e) (truth_itself c))
truth_decides (Inexact v) c = (λ h. tt, λ h. refl)
truth_decides Absent c = (λ h. tt, λ h. refl)

-- ---- counts

count_inner : (m n : ℕ) → count_value m ≡ count_value n → m ≡ n
count_inner m n e = cc

-- a value of the type of counts is one
count_of : (v : ScalarValue) → is_value v (dtype.Primitive ptype.U64 NonNullable) ≡ true → (m : ℕ) × (v ≡ count_value m)
count_of (value.Primitive (number.U64 m)) h = (m, refl)
count_of v h = absurd (true≢false (sym h))

exact_count : (v : ScalarValue) (n m : ℕ) → v ≡ count_value m → Decides (allows_count (Exact v) n) (v ≡ count_value n)
exact_count v n m e =
    subst (λ u. Decides (allows_count (Exact u) n) (u ≡ count_value n)) (sym e) (λ h. ap count_value (eqb-true m n h), λ k. eq-eqb m n (count_inner m n k))

at_least : (m n : ℕ) → (k : ℕ) × (count_value m ≡ count_value k) × (n ≤ k) → n ≤ m
at_least m n k = let same = count_inner m k.0 k.1 in omega (arith, k.2)

inexact_count : (v : ScalarValue) (n m : ℕ) → v ≡ count_value m → Decides (allows_count (Inexact v) n) (ClaimsCount (Inexact v) n)
inexact_count v n m e =
    subst (λ u. Decides (allows_count (Inexact u) n) (ClaimsCount (Inexact u) n)) (sym e) (λ h. (m, refl, leb-true n m h), λ k. le-leb n m (at_least m n k))

count_decides : (p : Precision ScalarValue) (t : DType) (n : ℕ) → value_fits NullCount t p ≡ true → Decides (allows_count p n) (ClaimsCount p n)
count_decides (Exact v) t n h = let m = count_of v h in exact_count v n m.0 m.1
count_decides (Inexact v) t n h = let m = count_of v h in inexact_count v n m.0 m.1
count_decides Absent t n h = (λ e. tt, λ e. refl)

-- ---- the greatest and the least value

tied : (v w : ScalarValue) → is_eq (value_cmp v w) ≡ true → v ≡ w
tied v w h = same_from_equal v w ((Equal-is (value_cmp v w)).0 h)

ties : (v w : ScalarValue) → v ≡ w → is_eq (value_cmp v w) ≡ true
ties v w e = ap is_eq (ap (value_cmp v) (sym e) ∙ tied_itself value_total v)

-- among some values there is one that no other is above
module _ {R : ScalarValue → ScalarValue → Ordering} (o : IsTotalOrder R) where
  abbrev Top : List (Option ScalarValue) → Type 0
  Top xs = (v : ScalarValue) × Contains xs (Some v) × ((w : ScalarValue) → Contains xs (Some w) → AtMost R w v)

  abbrev Empty : List (Option ScalarValue) → Type 0
  Empty xs = (w : ScalarValue) → Contains xs (Some w) → ⊥

  top_here : (b : Bool) (v w : ScalarValue) (xs : List (Option ScalarValue)) → Contains xs (Some w) → Contains (Some v ∷ xs) (Some (cond b v w))
  top_here true v w xs i = contains_first (Some v) xs
  top_here false v w xs i = contains_later (Some v) (Some w) xs i

  above_both : (v w : ScalarValue) (xs : List (Option ScalarValue)) → ((u : ScalarValue) → Contains xs (Some u) → AtMost R u w) → (u : ScalarValue) → Contains (Some v ∷ xs) (Some u) → AtMost R u (greater R w v)
  above_both v w xs h u (zero, l, e) = subst (λ x. AtMost R x (greater R w v)) (inner v u e) (greater-above o w v).1
  above_both v w xs h u (suc k, l, e) = AtMost-trans o u w (greater R w v) (h u (k, omega arith, e)) (greater-above o w v).0

  alone_above : (v : ScalarValue) (xs : List (Option ScalarValue)) → Empty xs → (u : ScalarValue) → Contains (Some v ∷ xs) (Some u) → AtMost R u v
  alone_above v xs h u (zero, l, e) = subst (λ x. AtMost R x v) (inner v u e) (AtMost-refl o v)
  alone_above v xs h u (suc k, l, e) = absurd (h u (k, omega arith, e))

  behind_null : (xs : List (Option ScalarValue)) (u : ScalarValue) → Contains (None ∷ xs) (Some u) → Contains xs (Some u)
  behind_null xs u (zero, l, e) = absurd (cc)
  behind_null xs u (suc k, l, e) = (k, omega arith, e)

  has_top : (xs : List (Option ScalarValue)) → Empty xs ⊎ Top xs
  has_top [] = inl (λ w i. omega (arith, i.1))
  has_top (None ∷ xs) =
      ⊎_elim
      (λ h. inl (λ w i. h w (behind_null xs w i)))
      (λ t. inr (t.0, contains_later None (Some t.0) xs t.1, λ w i. t.2 w (behind_null xs w i)))
      (has_top xs)
  has_top (Some v ∷ xs) =
      ⊎_elim
      (λ h. inr (v, contains_first (Some v) xs, alone_above v xs h))
      (λ t. inr (greater R t.0 v, top_here (is_lt (R t.0 v)) v t.0 xs t.1, above_both v t.0 xs t.2))
      (has_top xs)

module _ (xs : List (Option ScalarValue)) where
  no_greatest : max_value (present xs) ≡ None → (v : ScalarValue) → Contains xs (Some v) → NoneAbove v xs → ⊥
  no_greatest h v i k = let e = greatest_is xs v i k in cc

  no_least : min_value (present xs) ≡ None → (v : ScalarValue) → Contains xs (Some v) → NoneBelow v xs → ⊥
  no_least h v i k = let e = least_is xs v i k in cc

  none_to_exceed : max_value (present xs) ≡ None → (v : ScalarValue) → NoneAbove v xs
  none_to_exceed h v = ⊎_elim (λ k w i. absurd (k w i)) (λ t. absurd (no_greatest h t.0 t.1 t.2)) (has_top value_total xs)

  none_to_undercut : min_value (present xs) ≡ None → (v : ScalarValue) → NoneBelow v xs
  none_to_undercut h v = ⊎_elim (λ k w i. absurd (k w i)) (λ t. absurd (no_least h t.0 t.1 t.2)) (has_top (reversed_total value_total) xs)

  max_by : (p : Precision ScalarValue) (o : Option ScalarValue) → max_value (present xs) ≡ o → Decides (allows_max p o) (ClaimsMax p xs)
  max_by (Exact v) (Some w) h =
      let g = greatest_claims xs w h in (
        λ e. subst (λ u. Contains xs (Some u) × NoneAbove u xs) (sym (tied v w e)) g,
        λ k. ties v w (inner v w (sym (greatest_is xs v k.0 k.1) ∙ h)),
      )
  max_by (Exact v) None h = (λ e. absurd (true≢false (sym e)), λ k. absurd (no_greatest h v k.0 k.1))
  max_by (Inexact v) (Some w) h =
      let g = greatest_claims xs w h in (
        λ e u i. AtMost-trans value_total u w v (g.1 u i) (not-true (is_gt (value_cmp w v)) e),
        λ k. not_from_false (is_gt (value_cmp w v)) (k w g.0),
      )
  max_by (Inexact v) None h = (λ e. none_to_exceed h v, λ k. refl)
  max_by Absent o h = (λ e. tt, λ k. refl)

  min_by : (p : Precision ScalarValue) (o : Option ScalarValue) → min_value (present xs) ≡ o → Decides (allows_min p o) (ClaimsMin p xs)
  min_by (Exact v) (Some w) h =
      let g = least_claims xs w h in (
        λ e. subst (λ u. Contains xs (Some u) × NoneBelow u xs) (sym (tied v w e)) g,
        λ k. ties v w (inner v w (sym (least_is xs v k.0 k.1) ∙ h)),
      )
  min_by (Exact v) None h = (λ e. absurd (true≢false (sym e)), λ k. absurd (no_least h v k.0 k.1))
  min_by (Inexact v) (Some w) h =
      let g = least_claims xs w h in (
        λ e u i. AtMost-trans value_total v w u (not-true (is_gt (value_cmp v w)) e) (g.1 u i),
        λ k. not_from_false (is_gt (value_cmp v w)) (k w g.0),
      )
  min_by (Inexact v) None h = (λ e. none_to_undercut h v, λ k. refl)
  min_by Absent o h = (λ e. tt, λ k. refl)

-- ---- sums

-- the types of sums are those of two types of numbers
abbrev IsSumType : Option DType → Type 0
IsSumType None = ⊤
IsSumType (Some (dtype.Primitive ptype.U64 n)) = ⊤
IsSumType (Some (dtype.Primitive ptype.I64 n)) = ⊤
IsSumType o = ⊥

sum_ptype_is : (p : PType) → IsSumType (Some (dtype.Primitive (sum_ptype p) Nullable))
sum_ptype_is ptype.U8 = tt
sum_ptype_is ptype.U16 = tt
sum_ptype_is ptype.U32 = tt
sum_ptype_is ptype.U64 = tt
sum_ptype_is ptype.I8 = tt
sum_ptype_is ptype.I16 = tt
sum_ptype_is ptype.I32 = tt
sum_ptype_is ptype.I64 = tt

sum_is_number : (t : DType) → IsSumType (stat_dtype Sum t)
sum_is_number dtype.Null = tt
sum_is_number (dtype.Bool n) = tt
sum_is_number (dtype.Primitive p n) = sum_ptype_is p
sum_is_number (dtype.Utf8 n) = tt
sum_is_number (dtype.Binary n) = tt
sum_is_number (dtype.MinMaxState e n) = tt

-- a value of such a type is the number that it is
sum_value : (o : Option DType) (v : ScalarValue) → IsSumType o → is_value_of o v ≡ true → number_in o (whole v) ≡ Some v
sum_value (Some (dtype.Primitive ptype.U64 n)) (value.Primitive (number.U64 k)) t h = ap (λ b. cond b (Some (value.Primitive (number.U64 k))) None) h
sum_value (Some (dtype.Primitive ptype.I64 n)) (value.Primitive (number.I64 z)) t h = ap (λ b. cond b (Some (value.Primitive (number.I64 z))) None) h
sum_value (Some (dtype.Primitive ptype.U64 n)) v t h = absurd (true≢false (sym h))
sum_value (Some (dtype.Primitive ptype.I64 n)) v t h = absurd (true≢false (sym h))
sum_value None v t h = absurd (true≢false (sym h))
sum_value o v t h = absurd t

sum_same : (o : Option DType) (v w : ScalarValue) → is_value_of o v ≡ true → is_value_of o w ≡ true → whole v ≡ whole w → IsSumType o → v ≡ w
sum_same o v w p q e t = inner v w (sym (sum_value o v t p) ∙ ap (number_in o) e ∙ sum_value o w t q)

sum_in_type : (o : Option DType) (v : ScalarValue) → is_value_of o v ≡ true → IsSumType o → number_in o (whole v) ≡ None → ⊥
sum_in_type o v p t h = let e = sum_value o v t p in cc

sum_type_kind : (t : DType) (v w : ScalarValue) → is_value_of (stat_dtype Sum t) v ≡ true → is_value_of (stat_dtype Sum t) w ≡ true → whole v ≡ whole w → v ≡ w
sum_type_kind t v w p q e = sum_same (stat_dtype Sum t) v w p q e (sum_is_number t)

sum_by : (c : ColumnData) (p : Precision ScalarValue) (o : Option ScalarValue) → measured_value Sum c ≡ o → value_fits Sum c.dtype p ≡ true → Decides (allows_sum p o) (ClaimsSum p (sum_of (present c.values)))
sum_by c (Exact v) (Some w) h f =
    let g = number_fits (stat_dtype Sum c.dtype) (sum_of (present c.values)) w h in (
      λ e. ap whole (tied v w e) ∙ g.1,
      λ k. ties v w (sum_type_kind c.dtype v w f g.0 (k ∙ sym g.1)),
    )
sum_by c (Exact v) None h f = (λ e. absurd (true≢false (sym e)), λ k. absurd (sum_in_type (stat_dtype Sum c.dtype) v f (sum_is_number c.dtype) (subst (λ z. number_in (stat_dtype Sum c.dtype) z ≡ None) (sym k) h)))
sum_by c (Inexact v) o h f = (λ e. tt, λ k. refl)
sum_by c Absent o h f = (λ e. tt, λ k. refl)

-- ---- each statistic

pub allows_decides : (s : Stat) (p : Precision ScalarValue) (c : ColumnData) → value_fits s c.dtype p ≡ true → Decides (allows s p c) (Claims s p c)
allows_decides IsConstant p c h = truth_decides p _
allows_decides IsSorted p c h = truth_decides p _
allows_decides IsStrictSorted p c h = truth_decides p _
allows_decides Max p c h = max_by c.values p (max_value (present c.values)) refl
allows_decides Min p c h = min_by c.values p (min_value (present c.values)) refl
allows_decides Sum p c h = sum_by c p (measured_value Sum c) refl h
allows_decides NullCount p c h = count_decides p c.dtype _ h
allows_decides UncompressedSizeInBytes p c h = count_decides p c.dtype _ h
allows_decides NaNCount p c h = (λ e. tt, λ k. refl)

-- ---- whole sets

module _ (es : List (Stat × Precision ScalarValue)) (c : ColumnData) (fits : entries_fit es c.dtype ≡ true) where
  entry_fits : (e : Stat × Precision ScalarValue) → Contains es e → value_fits e.0 c.dtype e.1 ≡ true
  entry_fits e i = All-contains (λ f. value_fits f.0 c.dtype f.1 ≡ true) es e (AllPass-from_list_all (λ f. value_fits f.0 c.dtype f.1) es fits) i

  -- each entry passes exactly if the set is true
  pub checked : AreDistinct es → Decides (list_all (λ e. allows e.0 e.1 c) es) (IsTrueOf es c)
  checked distinct =
      let by_entry = true_by_entry c es distinct fits in (
        λ h. by_entry.1 (λ e i. (allows_decides e.0 e.1 c (entry_fits e i)).0 (All-contains (λ f. allows f.0 f.1 c ≡ true) es e (AllPass-from_list_all (λ f. allows f.0 f.1 c) es h) i)),
        λ t. list_all-from_AllPass (λ f. allows f.0 f.1 c) es
            (All-weaker (Contains es) (λ f. allows f.0 f.1 c ≡ true) (λ e i. (allows_decides e.0 e.1 c (entry_fits e i)).1 (by_entry.0 t e i)) es (All-contains_itself es)),
      )

  pub checked_as : AreDistinct es → (b : Bool) → list_all (λ e. allows e.0 e.1 c) es ≡ b → Decides b (IsTrueOf es c)
  checked_as distinct b h = subst (λ d. Decides d (IsTrueOf es c)) h (checked distinct)
