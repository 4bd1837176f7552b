-- Upper bounds: what they allow, their unions and intersections, and their order against a value.
use Rattle.std.specs.Prelude.{◌≡◌, Option, Some, None, MatchOption, if◌then◌else◌, IsTrue, ⊤, refl}
use Rattle.std.proofs.Common.{inl, inr, sym, ◌∙◌, ap, ⊎_elim}
use mathlib.Core.Bool.{true≢false}
use Rattle.std.specs.declared.cmp.Ordering.{Ordering}
use Rattle.std.specs.declared.cmp.Ordering.TheVariants.{Less, Equal, Greater}
use Rattle.std.specs.Ordering.{is_lt, is_gt, is_eq, ordering_reverse}
use Rattle.std.specs.Cmp.{IsTotalOrder, tied_back}
use Rattle.vortex_stats.specs.declared.precision.Precision.{Precision}
use Rattle.vortex_stats.specs.declared.precision.Precision.TheVariants.{Exact, Inexact, Absent}
use Rattle.vortex_stats.specs.declared.bound.IntersectionResult.{IntersectionResult}
use Rattle.vortex_stats.specs.declared.bound.IntersectionResult.TheVariants.{Value, Empty}
use Rattle.vortex_stats.specs.Precision.{is_present}
use Rattle.vortex_stats.specs.Bounds.Bound.{TiesAllowed, IsUnion, IsUnionAt, IsIntersection, IsTightIntersection, IsTightIntersectionAt, AllowNothing, MatchIntersection, intersection_from_tight}
pub use Rattle.vortex_stats.specs.Bounds.Order.{greater, lesser, AtMost}
use Rattle.vortex_stats.specs.Bounds.Order.{AtMost-refl, AtMost-trans, AtMost-of_equal, AtMost-of_less, AtMost-of_greater, AtMost-equal_left, equal-of_both, greater-least, greater-above, greater-rises, greater-one_of, lesser-greatest, lesser-below, lesser-one_of, greater_not, less_not_equal, greater_not_equal}

module _ {T : Type 0} (R : T → T → Ordering) where
  -- Exact(v) allows what compares equal to v, Inexact(v) what is at most v, Absent everything
  abbrev pub upper_allows : Precision T → T → Type 0
  upper_allows (Exact v) z = R v z ≡ Equal
  upper_allows (Inexact v) z = AtMost R z v
  upper_allows Absent z = ⊤

  -- the greater, and the exact one where the two are of different precision and compare equal
  abbrev pub upper_union : Precision T → Precision T → Option (Precision T)
  upper_union (Exact a) (Exact b) = Some (Exact (greater R a b))
  upper_union (Exact e) (Inexact i) = Some (if is_lt (R e i) then Inexact i else Exact e)
  upper_union (Exact e) Absent = None
  upper_union (Inexact i) (Exact e) = Some (if is_lt (R e i) then Inexact i else Exact e)
  upper_union (Inexact a) (Inexact b) = Some (Inexact (greater R a b))
  upper_union (Inexact i) Absent = None
  upper_union Absent b = None

  -- an exact one that both allow; the lesser of two inexact ones
  abbrev pub upper_intersection : Precision T → Precision T → Option (IntersectionResult (Precision T))
  upper_intersection (Exact a) (Exact b) = Some (if is_eq (R a b) then Value (Exact a) else Empty)
  upper_intersection (Exact e) (Inexact i) = Some (if is_lt (R i e) then Empty else Value (Exact e))
  upper_intersection (Exact e) Absent = None
  upper_intersection (Inexact i) (Exact e) = Some (if is_lt (R i e) then Empty else Value (Exact e))
  upper_intersection (Inexact a) (Inexact b) = Some (Value (Inexact (lesser R a b)))
  upper_intersection (Inexact i) Absent = None
  upper_intersection Absent b = None

  -- the order of the bound's value and z; of an inexact one nothing is known where its value is greater
  abbrev pub upper_compared : Precision T → T → Option Ordering
  upper_compared (Exact v) z = Some (R v z)
  upper_compared (Inexact v) z = if is_gt (R v z) then None else Some (R v z)
  upper_compared Absent z = None

module _ {T : Type 0} {R : T → T → Ordering} (o : IsTotalOrder R) where
  pub upper_allows-tied : TiesAllowed R (upper_allows R)
  upper_allows-tied = record { exact = λ v z. (λ e. e, λ e. e); absent = λ z. tt }

  -- the exact value is at least the inexact one
  union_at-reached : (e i : T) → AtMost R i e → IsUnionAt (upper_allows R) (greater R) (Exact e) (Inexact i) (Exact e)
  union_at-reached e i l = record {
    allowed = λ x y p q.
        let above : AtMost R e (greater R x y) = AtMost-trans o e x (greater R x y) (AtMost-of_equal o e x p) (greater-above o x y).0 in
        let x_below : AtMost R x e = AtMost-of_equal o x e (tied_back o e x p) in
        equal-of_both o e (greater R x y) above (greater-least o x y e x_below (AtMost-trans o y i e q l));
    made = record { value = inl refl; exact = λ h. inl refl; tied = λ z h k p q. refl };
  }

  union_at-mixed : (e i : T) (c : Ordering) → R e i ≡ c
      → IsUnionAt (upper_allows R) (greater R) (Exact e) (Inexact i) (if is_lt c then Inexact i else Exact e)
  union_at-mixed e i Less l = record {
    allowed = λ x y p q. greater-least o x y i (AtMost-equal_left o x e i p (AtMost-of_less o e i l)) q;
    made = record { value = inr refl; exact = λ h. inl refl; tied = λ z h k p q. absurd (true≢false (sym k)) };
  }
  union_at-mixed e i Equal l = union_at-reached e i (AtMost-of_equal o i e (tied_back o e i l))
  union_at-mixed e i Greater l = union_at-reached e i (AtMost-of_greater o e i l)

  union_at-reached_back : (e i : T) → AtMost R i e → IsUnionAt (upper_allows R) (greater R) (Inexact i) (Exact e) (Exact e)
  union_at-reached_back e i l = record {
    allowed = λ x y p q.
        let above : AtMost R e (greater R x y) = AtMost-trans o e y (greater R x y) (AtMost-of_equal o e y q) (greater-above o x y).1 in
        let y_below : AtMost R y e = AtMost-of_equal o y e (tied_back o e y q) in
        equal-of_both o e (greater R x y) above (greater-least o x y e (AtMost-trans o x i e p l) y_below);
    made = record { value = inr refl; exact = λ h. inr refl; tied = λ z h k p q. refl };
  }

  union_at-mixed_back : (e i : T) (c : Ordering) → R e i ≡ c
      → IsUnionAt (upper_allows R) (greater R) (Inexact i) (Exact e) (if is_lt c then Inexact i else Exact e)
  union_at-mixed_back e i Less l = record {
    allowed = λ x y p q. greater-least o x y i p (AtMost-equal_left o y e i q (AtMost-of_less o e i l));
    made = record { value = inl refl; exact = λ h. inr refl; tied = λ z h k p q. absurd (true≢false (sym h)) };
  }
  union_at-mixed_back e i Equal l = union_at-reached_back e i (AtMost-of_equal o i e (tied_back o e i l))
  union_at-mixed_back e i Greater l = union_at-reached_back e i (AtMost-of_greater o e i l)

  union_at-exact : (a b : T) → IsUnionAt (upper_allows R) (greater R) (Exact a) (Exact b) (Exact (greater R a b))
  union_at-exact a b = record {
    allowed = λ x y p q.
        equal-of_both o (greater R a b) (greater R x y)
        (greater-rises o x y a b (AtMost-of_equal o a x p) (AtMost-of_equal o b y q))
        (greater-rises o a b x y (AtMost-of_equal o x a (tied_back o a x p)) (AtMost-of_equal o y b (tied_back o b y q)));
    made = record { value = greater-one_of Some R a b; exact = λ h. inl refl; tied = λ z h k p q. refl };
  }

  union_at-inexact : (a b : T) → IsUnionAt (upper_allows R) (greater R) (Inexact a) (Inexact b) (Inexact (greater R a b))
  union_at-inexact a b = record {
    allowed = λ x y p q. greater-rises o a b x y p q;
    made = record { value = greater-one_of Some R a b; exact = λ h. absurd (true≢false (sym h)); tied = λ z h k p q. absurd (true≢false (sym h)) };
  }

  union_at : (a b : Precision T) → IsTrue (is_present a) → IsTrue (is_present b)
      → MatchOption (upper_union R a b) ⊥ (IsUnionAt (upper_allows R) (greater R) a b)
  union_at (Exact a) (Exact b) p q = union_at-exact a b
  union_at (Exact e) (Inexact i) p q = union_at-mixed e i (R e i) refl
  union_at (Exact e) Absent p q = true≢false (sym q)
  union_at (Inexact i) (Exact e) p q = union_at-mixed_back e i (R e i) refl
  union_at (Inexact a) (Inexact b) p q = union_at-inexact a b
  union_at (Inexact i) Absent p q = true≢false (sym q)
  union_at Absent b p q = absurd (true≢false (sym p))

  pub upper_union-law : IsUnion (upper_allows R) (greater R) (upper_union R)
  upper_union-law = record { present = union_at }

  meet_at-within : (e i : T) → AtMost R e i → IsTightIntersectionAt (upper_allows R) (Exact e) (Inexact i) (Exact e)
  meet_at-within e i l = record {
    allowed = λ z p q. p;
    only = λ z p. (p, AtMost-equal_left o z e i p l);
    own = (equal-of_both o e e (AtMost-refl o e) (AtMost-refl o e), l);
    made = record { value = inl refl; exact = λ h. inl refl; tied = λ z h k p q. refl };
  }

  meet_at-mixed : (e i : T) (c : Ordering) → R i e ≡ c
      → MatchIntersection (if is_lt c then Empty else Value (Exact e)) (AllowNothing (upper_allows R) (Exact e) (Inexact i))
      (IsTightIntersectionAt (upper_allows R) (Exact e) (Inexact i))
  meet_at-mixed e i Less l = λ z p q.
      greater_not o e i (o.antisymm e i ∙ ap ordering_reverse l) (AtMost-trans o e z i (AtMost-of_equal o e z p) q)
  meet_at-mixed e i Equal l = meet_at-within e i (AtMost-of_equal o e i (tied_back o i e l))
  meet_at-mixed e i Greater l = meet_at-within e i (AtMost-of_greater o i e l)

  meet_at-exact : (a b : T) (c : Ordering) → R a b ≡ c
      → MatchIntersection (if is_eq c then Value (Exact a) else Empty) (AllowNothing (upper_allows R) (Exact a) (Exact b))
      (IsTightIntersectionAt (upper_allows R) (Exact a) (Exact b))
  meet_at-exact a b Less l = λ z p q. less_not_equal o a b l (o.congr a z b p ∙ tied_back o b z q)
  meet_at-exact a b Equal l = record {
    allowed = λ z p q. p;
    only = λ z p. (p, o.congr b a z (tied_back o a b l) ∙ p);
    own = (equal-of_both o a a (AtMost-refl o a) (AtMost-refl o a), tied_back o a b l);
    made = record { value = inl refl; exact = λ h. inl refl; tied = λ z h k p q. refl };
  }
  meet_at-exact a b Greater l = λ z p q. greater_not_equal o a b l (o.congr a z b p ∙ tied_back o b z q)

  meet_at-inexact : (a b : T) → IsTightIntersectionAt (upper_allows R) (Inexact a) (Inexact b) (Inexact (lesser R a b))
  meet_at-inexact a b = record {
    allowed = λ z p q. lesser-greatest o a b z p q;
    only = λ z p.
        (AtMost-trans o z (lesser R a b) a p (lesser-below o a b).0, AtMost-trans o z (lesser R a b) b p (lesser-below o a b).1);
    own = lesser-below o a b;
    made = record { value = lesser-one_of Some R a b; exact = λ h. absurd (true≢false (sym h)); tied = λ z h k p q. absurd (true≢false (sym h)) };
  }

  turned : (e i : T) → IsTightIntersectionAt (upper_allows R) (Exact e) (Inexact i) (Exact e)
      → IsTightIntersectionAt (upper_allows R) (Inexact i) (Exact e) (Exact e)
  turned e i h = record {
    allowed = λ z p q. h.allowed z q p;
    only = λ z p. ((h.only z p).1, (h.only z p).0);
    own = (h.own.1, h.own.0);
    made = record { value = ⊎_elim inr inl h.made.value; exact = λ e. ⊎_elim inr inl (h.made.exact e); tied = λ z x y p q. h.made.tied z y x q p };
  }

  -- the same for the operands in the other order
  swapped : (e i : T) (c : Ordering)
      → MatchIntersection (if is_lt c then Empty else Value (Exact e)) (AllowNothing (upper_allows R) (Exact e) (Inexact i))
      (IsTightIntersectionAt (upper_allows R) (Exact e) (Inexact i))
      → MatchIntersection (if is_lt c then Empty else Value (Exact e)) (AllowNothing (upper_allows R) (Inexact i) (Exact e))
      (IsTightIntersectionAt (upper_allows R) (Inexact i) (Exact e))
  swapped e i Less h = λ z p q. h z q p
  swapped e i Equal h = turned e i h
  swapped e i Greater h = turned e i h

  meet_at : (a b : Precision T) → IsTrue (is_present a) → IsTrue (is_present b)
      → MatchOption (upper_intersection R a b) ⊥
      (λ m. MatchIntersection m (AllowNothing (upper_allows R) a b) (IsTightIntersectionAt (upper_allows R) a b))
  meet_at (Exact a) (Exact b) p q = meet_at-exact a b (R a b) refl
  meet_at (Exact e) (Inexact i) p q = meet_at-mixed e i (R i e) refl
  meet_at (Exact e) Absent p q = true≢false (sym q)
  meet_at (Inexact i) (Exact e) p q = swapped e i (R i e) (meet_at-mixed e i (R i e) refl)
  meet_at (Inexact a) (Inexact b) p q = meet_at-inexact a b
  meet_at (Inexact i) Absent p q = true≢false (sym q)
  meet_at Absent b p q = absurd (true≢false (sym p))

  pub upper_intersection-tight : IsTightIntersection (upper_allows R) (upper_intersection R)
  upper_intersection-tight = record { present = meet_at }

  pub upper_intersection-law : IsIntersection (upper_allows R) (upper_intersection R)
  upper_intersection-law = intersection_from_tight upper_intersection-tight
