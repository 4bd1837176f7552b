-- True greatest values: of two columns together, and of one column twice. Least values are the same under the reversed order.
use Rattle.std.proofs.Common.{◌≡◌, Bool, true, false, cond, List, ◌++◌, Option, Some, refl, ap, ◌∙◌, ⊎_elim}
use Rattle.std.specs.Prelude.{Contains, MatchOption, IsPermutation, ⊤}
use Rattle.std.specs.declared.cmp.Ordering.{Ordering}
use Rattle.std.specs.declared.cmp.Ordering.TheVariants.{Less, Equal, Greater}
use Rattle.std.specs.Ordering.{is_lt, is_eq, ordering_reverse}
use Rattle.std.specs.Cmp.{IsTotalOrder, tied_back}
use Rattle.std.proofs.lemmas.List.Elements.{Contains-append_left, Contains-append_right, Contains-append_cases}
use Rattle.std.proofs.lemmas.List.Sorted.{Contains-permutation, IsPermutation-sym}
use Rattle.vortex_stats.specs.declared.precision.Precision.{Precision}
use Rattle.vortex_stats.specs.declared.precision.Precision.TheVariants.{Exact, Inexact, Absent}
use Rattle.vortex_stats.specs.declared.bound.IntersectionResult.TheVariants.{Value, Empty}
use Rattle.vortex_stats.specs.Bounds.Order.{AtMost, AtMost-refl, AtMost-trans, AtMost-of_less, AtMost-of_equal, AtMost-of_greater, greater, greater-above, greater_not}
use Rattle.vortex_stats.specs.Bounds.UpperBound.{upper_union, upper_intersection}
use Rattle.vortex_stats.specs.Precision.{inexact_of}
use Rattle.vortex_stats.specs.Bounds.Bound.{MatchIntersection}

module _ {T : Type 0} (R : T → T → Ordering) where
  abbrev pub NoneGreater : T → List (Option T) → Type 0
  NoneGreater v xs = (w : T) → Contains xs (Some w) → AtMost R w v

  -- the greatest value, or one that is at least every value
  abbrev pub IsGreatest : Precision T → List (Option T) → Type 0
  IsGreatest (Exact v) xs = Contains xs (Some v) × NoneGreater v xs
  IsGreatest (Inexact v) xs = NoneGreater v xs
  IsGreatest Absent xs = ⊤

module _ {T : Type 0} {R : T → T → Ordering} (o : IsTotalOrder R) where
  none_greater : (a b v : T) (xs ys : List (Option T)) → NoneGreater R a xs → NoneGreater R b ys → AtMost R a v → AtMost R b v → NoneGreater R v (xs ++ ys)
  none_greater a b v xs ys p q h k = λ w m.
      ⊎_elim (λ i. AtMost-trans o w a v (p w i) h) (λ i. AtMost-trans o w b v (q w i) k) (Contains-append_cases xs ys (Some w) m)

  greater_in : (a b : T) (xs ys : List (Option T)) (c : Bool) → Contains xs (Some a) → Contains ys (Some b) → Contains (xs ++ ys) (Some (cond c b a))
  greater_in a b xs ys true p q = Contains-append_right xs ys (Some b) q
  greater_in a b xs ys false p q = Contains-append_left xs ys (Some a) p

  mixed : (e i : T) (xs ys : List (Option T)) (c : Ordering) → R e i ≡ c → IsGreatest R (Exact e) xs → IsGreatest R (Inexact i) ys → IsGreatest R (cond (is_lt c) (Inexact i) (Exact e)) (xs ++ ys)
  mixed e i xs ys Less l p q = none_greater e i i xs ys p.1 q (AtMost-of_less o e i l) (AtMost-refl o i)
  mixed e i xs ys Equal l p q = (Contains-append_left xs ys (Some e) p.0, none_greater e i e xs ys p.1 q (AtMost-refl o e) (AtMost-of_equal o i e (tied_back o e i l)))
  mixed e i xs ys Greater l p q = (Contains-append_left xs ys (Some e) p.0, none_greater e i e xs ys p.1 q (AtMost-refl o e) (AtMost-of_greater o e i l))

  mixed_back : (e i : T) (xs ys : List (Option T)) (c : Ordering) → R e i ≡ c → IsGreatest R (Inexact i) xs → IsGreatest R (Exact e) ys → IsGreatest R (cond (is_lt c) (Inexact i) (Exact e)) (xs ++ ys)
  mixed_back e i xs ys Less l p q = none_greater i e i xs ys p q.1 (AtMost-refl o i) (AtMost-of_less o e i l)
  mixed_back e i xs ys Equal l p q = (Contains-append_right xs ys (Some e) q.0, none_greater i e e xs ys p q.1 (AtMost-of_equal o i e (tied_back o e i l)) (AtMost-refl o e))
  mixed_back e i xs ys Greater l p q = (Contains-append_right xs ys (Some e) q.0, none_greater i e e xs ys p q.1 (AtMost-of_greater o e i l) (AtMost-refl o e))

  -- the union is true of both columns together
  pub greatest_of_union : (p q : Precision T) (xs ys : List (Option T)) → IsGreatest R p xs → IsGreatest R q ys → MatchOption (upper_union R p q) ⊤ (λ r. IsGreatest R r (xs ++ ys))
  greatest_of_union (Exact a) (Exact b) xs ys p q =
      (greater_in a b xs ys (is_lt (R a b)) p.0 q.0, none_greater a b (greater R a b) xs ys p.1 q.1 (greater-above o a b).0 (greater-above o a b).1)
  greatest_of_union (Exact e) (Inexact i) xs ys p q = mixed e i xs ys (R e i) refl p q
  greatest_of_union (Exact e) Absent xs ys p q = tt
  greatest_of_union (Inexact i) (Exact e) xs ys p q = mixed_back e i xs ys (R e i) refl p q
  greatest_of_union (Inexact a) (Inexact b) xs ys p q = none_greater a b (greater R a b) xs ys p q (greater-above o a b).0 (greater-above o a b).1
  greatest_of_union (Inexact i) Absent xs ys p q = tt
  greatest_of_union Absent q xs ys p h = tt

  -- ---- two true bounds of one column

  same_greatest : (a b : T) (xs : List (Option T)) (c : Ordering) → R a b ≡ c → IsGreatest R (Exact a) xs → IsGreatest R (Exact b) xs
      → MatchIntersection (cond (is_eq c) (Value (Exact a)) Empty) ⊥ (λ r. IsGreatest R r xs)
  same_greatest a b xs Less l p q = absurd (greater_not o b a (o.antisymm b a ∙ ap ordering_reverse l) (p.1 b q.0))
  same_greatest a b xs Equal l p q = p
  same_greatest a b xs Greater l p q = absurd (greater_not o a b l (q.1 a p.0))

  within : (e i : T) (xs : List (Option T)) (c : Ordering) → R i e ≡ c → IsGreatest R (Exact e) xs → IsGreatest R (Inexact i) xs
      → MatchIntersection (cond (is_lt c) Empty (Value (Exact e))) ⊥ (λ r. IsGreatest R r xs)
  within e i xs Less l p q = absurd (greater_not o e i (o.antisymm e i ∙ ap ordering_reverse l) (q e p.0))
  within e i xs Equal l p q = p
  within e i xs Greater l p q = p

  lesser_bound : (a b : T) (xs : List (Option T)) (c : Bool) → NoneGreater R a xs → NoneGreater R b xs → NoneGreater R (cond c b a) xs
  lesser_bound a b xs true p q = q
  lesser_bound a b xs false p q = p

  -- there is an intersection, and it is true of the column
  pub greatest_of_intersection : (p q : Precision T) (xs : List (Option T)) → IsGreatest R p xs → IsGreatest R q xs
      → MatchOption (upper_intersection R p q) ⊤ (λ m. MatchIntersection m ⊥ (λ r. IsGreatest R r xs))
  greatest_of_intersection (Exact a) (Exact b) xs p q = same_greatest a b xs (R a b) refl p q
  greatest_of_intersection (Exact e) (Inexact i) xs p q = within e i xs (R i e) refl p q
  greatest_of_intersection (Exact e) Absent xs p q = tt
  greatest_of_intersection (Inexact i) (Exact e) xs p q = within e i xs (R i e) refl q p
  greatest_of_intersection (Inexact a) (Inexact b) xs p q = lesser_bound a b xs (is_lt (R b a)) p q
  greatest_of_intersection (Inexact i) Absent xs p q = tt
  greatest_of_intersection Absent q xs p h = tt

module _ {T : Type 0} (R : T → T → Ordering) where
  -- the order of the rows plays no part
  pub greatest_of_reordered : (p : Precision T) (xs ys : List (Option T)) → IsPermutation xs ys → IsGreatest R p xs → IsGreatest R p ys
  greatest_of_reordered (Exact v) xs ys m h = (Contains-permutation xs ys (Some v) m h.0, λ w i. h.1 w (Contains-permutation ys xs (Some w) (IsPermutation-sym xs ys m) i))
  greatest_of_reordered (Inexact v) xs ys m h = λ w i. h w (Contains-permutation ys xs (Some w) (IsPermutation-sym xs ys m) i)
  greatest_of_reordered Absent xs ys m h = tt

  pub greatest_of_inexact : (p : Precision T) (xs : List (Option T)) → IsGreatest R p xs → IsGreatest R (inexact_of p) xs
  greatest_of_inexact (Exact v) xs h = h.1
  greatest_of_inexact (Inexact v) xs h = h
  greatest_of_inexact Absent xs h = tt
