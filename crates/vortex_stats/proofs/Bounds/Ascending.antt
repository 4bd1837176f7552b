-- Whether values ascend: of two columns together.
use Rattle.std.proofs.Common.{◌≡◌, zero, suc, Bool, true, false, cond, not, ◌&&◌, List, [], ◌∷◌, ◌++◌, Option, Some, None, refl, sym, ap, subst, ◌∙◌, arith}
use Rattle.std.specs.Prelude.{Contains, MatchOption, ⊤}
use Rattle.std.specs.declared.cmp.Ordering.{Ordering}
use Rattle.std.specs.declared.cmp.Ordering.TheVariants.{Less, Equal, Greater}
use Rattle.std.specs.Ordering.{is_lt, is_gt, ordering_reverse}
use Rattle.std.specs.Cmp.{tied_back}
use Rattle.std.proofs.lemmas.Bool.{and_parts, and_from, not-true, not_from_false}
use mathlib.Core.Bool.{true≢false}
use Rattle.vortex_base.specs.declared.scalar_value.ScalarValue.{ScalarValue}
use Rattle.vortex_base.specs.declared.scalar_value.ScalarValue.TheVariants as value
use Rattle.vortex_base.specs.Data.Values.{value_cmp}
use Rattle.vortex_stats.specs.declared.precision.Precision.{Precision}
use Rattle.vortex_stats.specs.declared.precision.Precision.TheVariants.{Exact, Inexact, Absent}
use Rattle.vortex_stats.specs.Sets.Claims.{present, is_sorted, is_strict_sorted, NoneAbove, NoneBelow, ClaimsTruth, ClaimsMax, ClaimsMin}
use Rattle.vortex_stats.specs.Merging.Merges.{is_exact_truth, seam, at_seam, order_merged, is_at_most, is_below}
use Rattle.vortex_stats.specs.Bounds.Order.{AtMost, AtMost-trans, AtMost-of_greater, AtMost-of_equal, greater_not}
use Rattle.vortex_stats.specs.Precision.{present_value}
use Rattle.vortex_stats.proofs.Merging.Constants.{when_true, inner}
use Rattle.vortex_stats.proofs.Merging.Sums.{present-append}
use Rattle.vortex_stats.proofs.Bounds.ValueOrder.{value_total}

pub contains_first : {X : Type 0} (x : X) (xs : List X) → Contains (x ∷ xs) x
contains_first x xs = (zero, omega arith, refl)

pub contains_later : {X : Type 0} (x y : X) (xs : List X) → Contains xs y → Contains (x ∷ xs) y
contains_later x y xs i = (suc i.0, omega (arith, i.1), i.2)

-- a value among those that are present stands in the column
pub contains-present : (xs : List (Option ScalarValue)) (v : ScalarValue) → Contains (present xs) v → Contains xs (Some v)
contains-present [] v i = absurd (omega (arith, i.1))
contains-present (None ∷ xs) v i = contains_later None (Some v) xs (contains-present xs v i)
contains-present (Some w ∷ xs) v (zero, l, e) = (zero, omega arith, ap Some e)
contains-present (Some w ∷ xs) v (suc k, l, e) = contains_later (Some w) (Some v) xs (contains-present xs v (k, omega arith, e))

-- ---- each value and the next pass a test

module _ (test : ScalarValue → ScalarValue → Bool) where
  abbrev pub ascends : List ScalarValue → Bool
  ascends [] = true
  ascends (v ∷ []) = true
  ascends (v ∷ w ∷ vs) = test v w && ascends (w ∷ vs)

  joined : (v : ScalarValue) (ws : List ScalarValue) → ascends ws ≡ true → ((w : ScalarValue) → Contains ws w → test v w ≡ true) → ascends (v ∷ ws) ≡ true
  joined v [] h f = refl
  joined v (w ∷ ws) h f = and_from (test v w) (ascends (w ∷ ws)) (f w (contains_first w ws)) h

  pub ascends-append : (vs ws : List ScalarValue) → ascends vs ≡ true → ascends ws ≡ true → ((v w : ScalarValue) → Contains vs v → Contains ws w → test v w ≡ true) → ascends (vs ++ ws) ≡ true
  ascends-append [] ws h k f = k
  ascends-append (v ∷ []) ws h k f = joined v ws k (λ w i. f v w (contains_first v []) i)
  ascends-append (v ∷ u ∷ vs) ws h k f =
      let parts = and_parts (test v u) (ascends (u ∷ vs)) h in
      and_from (test v u) (ascends ((u ∷ vs) ++ ws)) parts.0
      (ascends-append (u ∷ vs) ws parts.1 k (λ x w i j. f x w (contains_later v x (u ∷ vs) i) j))

pub sorted_is : (vs : List ScalarValue) → is_sorted vs ≡ ascends is_at_most vs
sorted_is [] = refl
sorted_is (v ∷ []) = refl
sorted_is (v ∷ w ∷ vs) = ap (λ b. not (is_gt (value_cmp v w)) && b) (sorted_is (w ∷ vs))

pub strict_is : (vs : List ScalarValue) → is_strict_sorted vs ≡ ascends is_below vs
strict_is [] = refl
strict_is (v ∷ []) = refl
strict_is (v ∷ w ∷ vs) = ap (λ b. is_lt (value_cmp v w) && b) (strict_is (w ∷ vs))

-- ---- across the seam

-- v is at most the maximum, and w at least the minimum, so they pass the test where those two do
abbrev Carries : (ScalarValue → ScalarValue → Bool) → Type 0
Carries test = (max min v w : ScalarValue) → test max min ≡ true → AtMost value_cmp v max → AtMost value_cmp min w → test v w ≡ true

at_most_carries : Carries is_at_most
at_most_carries max min v w h p q =
    not_from_false (is_gt (value_cmp v w))
    (AtMost-trans value_total v max w p (AtMost-trans value_total max min w (not-true (is_gt (value_cmp max min)) h) q))

less_is : (c : Ordering) → is_lt c ≡ true → c ≡ Less
less_is Less h = refl
less_is Equal h = absurd (true≢false (sym h))
less_is Greater h = absurd (true≢false (sym h))

-- what is above cannot be below
not_both : (max min : ScalarValue) → is_below max min ≡ true → AtMost value_cmp min max → ⊥
not_both max min h p =
    greater_not value_total min max (value_total.antisymm min max ∙ ap ordering_reverse (less_is (value_cmp max min) h)) p

below_by : (max min v w : ScalarValue) (c : Ordering) → value_cmp v w ≡ c → is_below max min ≡ true → AtMost value_cmp v max → AtMost value_cmp min w → is_lt c ≡ true
below_by max min v w Less e h p q = refl
below_by max min v w Equal e h p q =
    absurd (not_both max min h (AtMost-trans value_total min w max q (AtMost-trans value_total w v max (AtMost-of_equal value_total w v (tied_back value_total v w e)) p)))
below_by max min v w Greater e h p q =
    absurd (not_both max min h (AtMost-trans value_total min w max q (AtMost-trans value_total w v max (AtMost-of_greater value_total v w e) p)))

below_carries : Carries is_below
below_carries max min v w h p q = below_by max min v w (value_cmp v w) refl h p q

-- ---- of both columns

-- what a known maximum says, exact or not
none_above : (p : Precision ScalarValue) (v : ScalarValue) (xs : List (Option ScalarValue)) → present_value p ≡ Some v → ClaimsMax p xs → NoneAbove v xs
none_above (Exact u) v xs e h = subst (λ r. NoneAbove r xs) (inner u v e) h.1
none_above (Inexact u) v xs e h = subst (λ r. NoneAbove r xs) (inner u v e) h
none_above Absent v xs e h = absurd (cc)

none_below : (p : Precision ScalarValue) (v : ScalarValue) (xs : List (Option ScalarValue)) → present_value p ≡ Some v → ClaimsMin p xs → NoneBelow v xs
none_below (Exact u) v xs e h = subst (λ r. NoneBelow r xs) (inner u v e) h.1
none_below (Inexact u) v xs e h = subst (λ r. NoneBelow r xs) (inner u v e) h
none_below Absent v xs e h = absurd (cc)

module _ (test : ScalarValue → ScalarValue → Bool) (carries : Carries test) (xs ys : List (Option ScalarValue)) where
  abbrev TellsOrder : Option (Precision ScalarValue) → Type 0
  TellsOrder o = MatchOption o ⊤ (λ r. ClaimsTruth r (ascends test (present (xs ++ ys))))

  both_ascend : (max min : ScalarValue) → ascends test (present xs) ≡ true → ascends test (present ys) ≡ true → NoneAbove max xs → NoneBelow min ys → test max min ≡ true
      → ascends test (present (xs ++ ys)) ≡ true
  both_ascend max min h k p q t =
      ap (ascends test) (present-append xs ys)
      ∙ ascends-append test (present xs) (present ys) h k (λ v w i j. carries max min v w t (p v (contains-present xs v i)) (q w (contains-present ys w j)))

  at_test : (max min : ScalarValue) → ascends test (present xs) ≡ true → ascends test (present ys) ≡ true → NoneAbove max xs → NoneBelow min ys
      → (b : Bool) → test max min ≡ b → TellsOrder (Some (seam b))
  at_test max min h k p q true t = ap value.Bool (sym (both_ascend max min h k p q t))
  at_test max min h k p q false t = tt

  at_values : (m n : Precision ScalarValue) → ascends test (present xs) ≡ true → ascends test (present ys) ≡ true → ClaimsMax m xs → ClaimsMin n ys
      → (max min : Option ScalarValue) → present_value m ≡ max → present_value n ≡ min → TellsOrder (at_seam test max min)
  at_values m n h k p q (Some max) (Some min) d e = at_test max min h k (none_above m max xs d p) (none_below n min ys e q) (test max min) refl
  at_values m n h k p q (Some max) None d e = tt
  at_values m n h k p q None min d e = tt

  at_truths : (c d m n : Precision ScalarValue) → ClaimsTruth c (ascends test (present xs)) → ClaimsTruth d (ascends test (present ys)) → ClaimsMax m xs → ClaimsMin n ys
      → (b : Bool) → (is_exact_truth true c && is_exact_truth true d) ≡ b → TellsOrder (cond b (at_seam test (present_value m) (present_value n)) None)
  at_truths c d m n u v p q true e =
      let k = and_parts (is_exact_truth true c) (is_exact_truth true d) e in
      at_values m n (when_true c (ascends test (present xs)) k.0 u) (when_true d (ascends test (present ys)) k.1 v) p q (present_value m) (present_value n) refl refl
  at_truths c d m n u v p q false e = tt

  order_of_merged : (c d m n : Precision ScalarValue) → ClaimsTruth c (ascends test (present xs)) → ClaimsTruth d (ascends test (present ys)) → ClaimsMax m xs → ClaimsMin n ys
      → TellsOrder (order_merged test c d m n)
  order_of_merged c d m n u v p q = at_truths c d m n u v p q (is_exact_truth true c && is_exact_truth true d) refl

module _ (c d m n : Precision ScalarValue) (xs ys : List (Option ScalarValue)) where
  -- the merged truth is true of both columns together
  pub sorted_of_merged : ClaimsTruth c (is_sorted (present xs)) → ClaimsTruth d (is_sorted (present ys)) → ClaimsMax m xs → ClaimsMin n ys
      → MatchOption (order_merged is_at_most c d m n) ⊤ (λ r. ClaimsTruth r (is_sorted (present (xs ++ ys))))
  sorted_of_merged u v p q =
      subst (λ b. MatchOption (order_merged is_at_most c d m n) ⊤ (λ r. ClaimsTruth r b)) (sym (sorted_is (present (xs ++ ys))))
      (order_of_merged is_at_most at_most_carries xs ys c d m n (subst (ClaimsTruth c) (sorted_is (present xs)) u) (subst (ClaimsTruth d) (sorted_is (present ys)) v) p q)

  pub strict_of_merged : ClaimsTruth c (is_strict_sorted (present xs)) → ClaimsTruth d (is_strict_sorted (present ys)) → ClaimsMax m xs → ClaimsMin n ys
      → MatchOption (order_merged is_below c d m n) ⊤ (λ r. ClaimsTruth r (is_strict_sorted (present (xs ++ ys))))
  strict_of_merged u v p q =
      subst (λ b. MatchOption (order_merged is_below c d m n) ⊤ (λ r. ClaimsTruth r b)) (sym (strict_is (present (xs ++ ys))))
      (order_of_merged is_below below_carries xs ys c d m n (subst (ClaimsTruth c) (strict_is (present xs)) u) (subst (ClaimsTruth d) (strict_is (present ys)) v) p q)
