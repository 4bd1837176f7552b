-- A value with a precision as a bound: an exact one allows its value alone, an inexact one everything.
use Rattle.std.specs.Prelude.{◌≡◌, Bool, true, false, Option, Some, None, MatchOption, ◌⊎◌, if◌then◌else◌, IsTrue, ⊤, refl}
use Rattle.std.proofs.Common.{inl, inr, sym, ◌∙◌}
use mathlib.Core.Bool.{true≢false}
use Rattle.std.specs.declared.cmp.Ordering.{Ordering}
use Rattle.std.specs.declared.cmp.Ordering.TheVariants.{Less, Equal, Greater}
use Rattle.std.specs.Ordering.{is_lt, is_eq}
use Rattle.std.specs.Cmp.{IsTotalOrder, tied_back}
use Rattle.vortex_stats.specs.declared.precision.Precision.{Precision}
use Rattle.vortex_stats.specs.declared.precision.Precision.TheVariants.{Exact, Inexact, Absent}
use Rattle.vortex_stats.specs.declared.bound.IntersectionResult.{IntersectionResult}
use Rattle.vortex_stats.specs.declared.bound.IntersectionResult.TheVariants.{Value, Empty}
use Rattle.vortex_stats.specs.Precision.{is_exact, is_present, present_value}
use Rattle.vortex_stats.specs.Bounds.Bound.{TiesAllowed, IsUnion, IsUnionAt, IsIntersection, IsIntersectionAt, AllowNothing, MatchIntersection}
pub use Rattle.vortex_stats.specs.Bounds.Order.{lesser}
use Rattle.vortex_stats.specs.Bounds.Order.{AtMost-of_equal, equal-of_both, lesser-rises, lesser-one_of, less_not_equal, greater_not_equal}

module _ {T : Type 0} (R : T → T → Ordering) where
  -- Exact(v) allows what compares equal to v, Inexact and Absent everything
  abbrev pub point_allows : Precision T → T → Type 0
  point_allows (Exact v) z = R v z ≡ Equal
  point_allows (Inexact v) z = ⊤
  point_allows Absent z = ⊤

  -- the lesser value; Exact of two Exact alone
  abbrev pub point_union : Precision T → Precision T → Option (Precision T)
  point_union (Exact a) (Exact b) = Some (Exact (lesser R a b))
  point_union (Exact a) (Inexact b) = Some (Inexact (lesser R a b))
  point_union (Exact a) Absent = None
  point_union (Inexact a) (Exact b) = Some (Inexact (lesser R a b))
  point_union (Inexact a) (Inexact b) = Some (Inexact (lesser R a b))
  point_union (Inexact a) Absent = None
  point_union Absent b = None

  -- of an exact and an inexact value the exact one, inexact from here on where it is less than the other
  abbrev pub point_intersection : Precision T → Precision T → Option (IntersectionResult (Precision T))
  point_intersection (Exact a) (Exact b) = Some (if is_eq (R a b) then Value (Exact a) else Empty)
  point_intersection (Exact e) (Inexact i) = Some (Value (if is_lt (R e i) then Inexact e else Exact e))
  point_intersection (Exact e) Absent = Some Empty
  point_intersection (Inexact i) (Exact e) = Some (Value (if is_lt (R e i) then Inexact e else Exact e))
  point_intersection (Inexact a) (Inexact b) = Some (Value (Inexact (lesser R a b)))
  point_intersection (Inexact i) Absent = Some Empty
  point_intersection Absent b = Some Empty

module _ {T : Type 0} {R : T → T → Ordering} (o : IsTotalOrder R) where
  pub point_allows-tied : TiesAllowed R (point_allows R)
  point_allows-tied = record { exact = λ v z. (λ e. e, λ e. e); absent = λ z. tt }

  inexact_union : (a b : Precision T) (v : T) → ((Some v ≡ present_value a) ⊎ (Some v ≡ present_value b)) → (IsTrue (is_exact a) → IsTrue (is_exact b) → ⊥)
      → IsUnionAt (point_allows R) (lesser R) a b (Inexact v)
  inexact_union a b v h n = record {
    allowed = λ x y p q. tt;
    made = record { value = h; exact = λ e. absurd (true≢false (sym e)); tied = λ z x y p q. absurd (n x y) };
  }

  union_at : (a b : Precision T) → IsTrue (is_present a) → IsTrue (is_present b)
      → MatchOption (point_union R a b) ⊥ (IsUnionAt (point_allows R) (lesser R) a b)
  union_at (Exact a) (Exact b) p q = record {
    allowed = λ x y p q.
        equal-of_both o (lesser R a b) (lesser R x y)
        (lesser-rises o x y a b (AtMost-of_equal o a x p) (AtMost-of_equal o b y q))
        (lesser-rises o a b x y (AtMost-of_equal o x a (tied_back o a x p)) (AtMost-of_equal o y b (tied_back o b y q)));
    made = record { value = lesser-one_of Some R a b; exact = λ h. inl refl; tied = λ z h k p q. refl };
  }
  union_at (Exact a) (Inexact b) p q = inexact_union (Exact a) (Inexact b) (lesser R a b) (lesser-one_of Some R a b) (λ x y. true≢false (sym y))
  union_at (Exact e) Absent p q = true≢false (sym q)
  union_at (Inexact a) (Exact b) p q = inexact_union (Inexact a) (Exact b) (lesser R a b) (lesser-one_of Some R a b) (λ x y. true≢false (sym x))
  union_at (Inexact a) (Inexact b) p q = inexact_union (Inexact a) (Inexact b) (lesser R a b) (lesser-one_of Some R a b) (λ x y. true≢false (sym x))
  union_at (Inexact i) Absent p q = true≢false (sym q)
  union_at Absent b p q = absurd (true≢false (sym p))

  pub point_union-law : IsUnion (point_allows R) (lesser R) (point_union R)
  point_union-law = record { present = union_at }

  meet_at-exact : (a b : T) (c : Ordering) → R a b ≡ c
      → MatchIntersection (if is_eq c then Value (Exact a) else Empty) (AllowNothing (point_allows R) (Exact a) (Exact b))
      (IsIntersectionAt (point_allows R) (Exact a) (Exact b))
  meet_at-exact a b Less l = λ z p q. less_not_equal o a b l (o.congr a z b p ∙ tied_back o b z q)
  meet_at-exact a b Equal l = record {
    allowed = λ z p q. p;
    made = record { value = inl refl; exact = λ h. inl refl; tied = λ z h k p q. refl };
  }
  meet_at-exact a b Greater l = λ z p q. greater_not_equal o a b l (o.congr a z b p ∙ tied_back o b z q)

  meet_at-mixed : (e i : T) (c : Bool) → IsIntersectionAt (point_allows R) (Exact e) (Inexact i) (if c then Inexact e else Exact e)
  meet_at-mixed e i true = record {
    allowed = λ z p q. tt;
    made = record { value = inl refl; exact = λ h. inl refl; tied = λ z h k p q. absurd (true≢false (sym k)) };
  }
  meet_at-mixed e i false = record {
    allowed = λ z p q. p;
    made = record { value = inl refl; exact = λ h. inl refl; tied = λ z h k p q. refl };
  }

  meet_at-mixed_back : (e i : T) (c : Bool) → IsIntersectionAt (point_allows R) (Inexact i) (Exact e) (if c then Inexact e else Exact e)
  meet_at-mixed_back e i true = record {
    allowed = λ z p q. tt;
    made = record { value = inr refl; exact = λ h. inr refl; tied = λ z h k p q. absurd (true≢false (sym h)) };
  }
  meet_at-mixed_back e i false = record {
    allowed = λ z p q. q;
    made = record { value = inr refl; exact = λ h. inr refl; tied = λ z h k p q. refl };
  }

  meet_at : (a b : Precision T) → IsTrue (is_present a) → IsTrue (is_present b)
      → MatchOption (point_intersection R a b) ⊥
      (λ m. MatchIntersection m (AllowNothing (point_allows R) a b) (IsIntersectionAt (point_allows R) a b))
  meet_at (Exact a) (Exact b) p q = meet_at-exact a b (R a b) refl
  meet_at (Exact e) (Inexact i) p q = meet_at-mixed e i (is_lt (R e i))
  meet_at (Exact e) Absent p q = absurd (true≢false (sym q))
  meet_at (Inexact i) (Exact e) p q = meet_at-mixed_back e i (is_lt (R e i))
  meet_at (Inexact a) (Inexact b) p q = record {
    allowed = λ z p q. tt;
    made = record { value = lesser-one_of Some R a b; exact = λ h. absurd (true≢false (sym h)); tied = λ z h k p q. absurd (true≢false (sym h)) };
  }
  meet_at (Inexact i) Absent p q = absurd (true≢false (sym q))
  meet_at Absent b p q = absurd (true≢false (sym p))

  pub point_intersection-law : IsIntersection (point_allows R) (point_intersection R)
  point_intersection-law = record { present = meet_at }
