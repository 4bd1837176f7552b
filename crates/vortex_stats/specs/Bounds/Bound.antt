-- The laws of bounds: what a bound allows, and what a union and an intersection keep of that.
use Rattle.std.specs.Prelude.{◌≡◌, ◌↔◌, Option, Some, None, Result, Ok, Err, MatchOption, ◌⊎◌, IsTrue}
use Rattle.std.specs.declared.cmp.Ordering.{Ordering}
use Rattle.std.specs.declared.cmp.Ordering.TheVariants.{Equal}
use Rattle.vortex_stats.specs.declared.precision.Precision.{Precision}
use Rattle.vortex_stats.specs.declared.precision.Precision.TheVariants.{Exact, Absent}
use Rattle.vortex_stats.specs.declared.bound.IntersectionResult.{IntersectionResult}
use Rattle.vortex_stats.specs.declared.bound.IntersectionResult.TheVariants.{Value, Empty}
use Rattle.vortex_stats.specs.Precision.{present_value, is_exact, is_present, IsPresentAnd}

-- a clone that is answered equals its source
abbrev pub ClonesEqual : {T : Type 0} → (T → T → Type 0) → Type 0
ClonesEqual {T} is_clone = (x y : T) → is_clone x y → y ≡ x

module _ {A B : Type 0} where
  abbrev pub intersection_map : (A → B) → IntersectionResult A → IntersectionResult B
  intersection_map f (Value x) = Value (f x)
  intersection_map f Empty = Empty

  -- what the closure gives in place of Empty
  abbrev pub IsOkOrElse : (B → Type 0) → IntersectionResult A → Result A B → Type 0
  IsOkOrElse gives (Value v) r = r ≡ Ok v
  IsOkOrElse gives Empty (Err e) = gives e
  IsOkOrElse gives Empty (Ok v) = ⊥

-- a fact for Empty, and one for the value
abbrev pub MatchIntersection : {A : Type 0} → IntersectionResult A → Type 0 → (A → Type 0) → Type 0
MatchIntersection (Value x) P Q = Q x
MatchIntersection Empty P Q = P

-- there is a value, and it has P
abbrev pub IsValueAnd : {A : Type 0} → IntersectionResult A → (A → Type 0) → Type 0
IsValueAnd (Value x) P = P x
IsValueAnd Empty P = ⊥

-- the answer holds a value whose clone can fail
module _ {T : Type 0} (is_infallible : T → Type 0) where
  abbrev pub HoldsFallible : Option (Precision T) → Type 0
  HoldsFallible None = ⊥
  HoldsFallible (Some r) = IsPresentAnd r (λ v. ¬ (is_infallible v))

  abbrev pub IntersectionHoldsFallible : Option (IntersectionResult (Precision T)) → Type 0
  IntersectionHoldsFallible None = ⊥
  IntersectionHoldsFallible (Some Empty) = ⊥
  IntersectionHoldsFallible (Some (Value r)) = IsPresentAnd r (λ v. ¬ (is_infallible v))

-- an exact bound allows what compares equal to its value alone, an absent one everything
pub record TiesAllowed {T : Type 0} (cmp : T → T → Ordering) (allows : Precision T → T → Type 0) : Type 0 where
  pub exact : (v z : T) → allows (Exact v) z ↔ (cmp v z ≡ Equal)
  pub absent : (z : T) → allows Absent z

module _ {T : Type 0} (allows : Precision T → T → Type 0) where
  -- r has the value of a or of b, is exact only if one of the two is, and is exact if both are and tie, which is where some value is allowed by both
  pub record IsMadeOf (a b r : Precision T) : Type 0 where
    pub value : (present_value r ≡ present_value a) ⊎ (present_value r ≡ present_value b)
    pub exact : IsTrue (is_exact r) → IsTrue (is_exact a) ⊎ IsTrue (is_exact b)
    pub tied : (z : T) → IsTrue (is_exact a) → IsTrue (is_exact b) → allows a z → allows b z → IsTrue (is_exact r)

  -- r allows the pick of any two values that a and b allow
  pub record IsUnionAt (pick : T → T → T) (a b r : Precision T) : Type 0 where
    pub allowed : (x y : T) → allows a x → allows b y → allows r (pick x y)
    pub made : IsMadeOf a b r

  -- two present bounds have a union
  pub record IsUnion (pick : T → T → T) (union : Precision T → Precision T → Option (Precision T)) : Type 0 where
    pub present : (a b : Precision T) → IsTrue (is_present a) → IsTrue (is_present b) → MatchOption (union a b) ⊥ (IsUnionAt pick a b)

  -- r allows what a and b both allow
  pub record IsIntersectionAt (a b r : Precision T) : Type 0 where
    pub allowed : (z : T) → allows a z → allows b z → allows r z
    pub made : IsMadeOf a b r

  -- nothing is allowed by both
  abbrev pub AllowNothing : Precision T → Precision T → Type 0
  AllowNothing a b = (z : T) → allows a z → allows b z → ⊥

  -- two present bounds have an intersection, which is Empty only where nothing is allowed by both
  pub record IsIntersection (intersection : Precision T → Precision T → Option (IntersectionResult (Precision T))) : Type 0 where
    pub present : (a b : Precision T) → IsTrue (is_present a) → IsTrue (is_present b)
        → MatchOption (intersection a b) ⊥ (λ m. MatchIntersection m (AllowNothing a b) (IsIntersectionAt a b))

  -- r allows exactly what a and b both allow, its own value among it
  pub record IsTightIntersectionAt (a b r : Precision T) : Type 0 where
    pub allowed : (z : T) → allows a z → allows b z → allows r z
    pub only : (z : T) → allows r z → allows a z × allows b z
    pub own : IsPresentAnd r (λ v. allows a v × allows b v)
    pub made : IsMadeOf a b r

  -- the same, and Empty comes exactly where nothing is allowed by both
  pub record IsTightIntersection (intersection : Precision T → Precision T → Option (IntersectionResult (Precision T))) : Type 0 where
    pub present : (a b : Precision T) → IsTrue (is_present a) → IsTrue (is_present b)
        → MatchOption (intersection a b) ⊥ (λ m. MatchIntersection m (AllowNothing a b) (IsTightIntersectionAt a b))

module _ {T : Type 0} (allows : Precision T → T → Type 0) where
  loosened : (a b : Precision T) (m : IntersectionResult (Precision T))
      → MatchIntersection m (AllowNothing allows a b) (IsTightIntersectionAt allows a b)
      → MatchIntersection m (AllowNothing allows a b) (IsIntersectionAt allows a b)
  loosened a b (Value r) h = record { allowed = h.allowed; made = h.made }
  loosened a b Empty h = h

  loosened_option : (a b : Precision T) (o : Option (IntersectionResult (Precision T)))
      → MatchOption o ⊥ (λ m. MatchIntersection m (AllowNothing allows a b) (IsTightIntersectionAt allows a b))
      → MatchOption o ⊥ (λ m. MatchIntersection m (AllowNothing allows a b) (IsIntersectionAt allows a b))
  loosened_option a b (Some m) h = loosened a b m h
  loosened_option a b None h = h

pub intersection_from_tight : {T : Type 0} {allows : Precision T → T → Type 0}
    {intersection : Precision T → Precision T → Option (IntersectionResult (Precision T))}
    → IsTightIntersection allows intersection → IsIntersection allows intersection
intersection_from_tight {T} {allows} {intersection} t =
    record { present = λ a b p q. loosened_option allows a b (intersection a b) (t.present a b p q) }
