-- Unions of present bounds: that no bound is tighter, and what a union of many is in whatever grouping.
use Rattle.std.specs.Prelude.{◌≡◌, List, [], ◌∷◌, ◌++◌, Option, Some, None, MatchOption, ◌⊎◌, IsTrue, All, Contains}
use Rattle.std.specs.declared.cmp.Ordering.{Ordering}
use Rattle.std.specs.declared.cmp.Ordering.TheVariants.{Equal}
use Rattle.vortex_stats.specs.declared.precision.Precision.{Precision}
use Rattle.vortex_stats.specs.declared.precision.Precision.TheVariants.{Exact, Inexact, Absent}
use Rattle.vortex_stats.specs.Precision.{present_value, is_present}
use Rattle.vortex_stats.specs.Bounds.Order.{AtMost}

-- ---- of two bounds

-- x is z, or the value of a or of b
abbrev pub IsAmong : {T : Type 0} → Precision T → Precision T → T → T → Type 0
IsAmong a b z x = (x ≡ z) ⊎ ((present_value a ≡ Some x) ⊎ (present_value b ≡ Some x))

module _ {T : Type 0} (allows : Precision T → T → Type 0) (pick : T → T → T) where
  -- c allows the pick of any two values, one allowed by a and one by b, that are z or an operand's value
  abbrev pub AllowsPicks : Precision T → Precision T → T → Precision T → Type 0
  AllowsPicks a b z c = (x y : T) → IsAmong a b z x → IsAmong a b z y → allows a x → allows b y → allows c (pick x y)

  -- what r allows, every bound allows that allows these picks
  abbrev pub IsTightestAt : Precision T → Precision T → Precision T → Type 0
  IsTightestAt a b r = (c : Precision T) (z : T) → allows r z → AllowsPicks a b z c → allows c z

  -- two present bounds have a union, and it is the tightest bound that allows the picks
  pub record IsTightestUnion (union : Precision T → Precision T → Option (Precision T)) : Type 0 where
    pub present : (a b : Precision T) → IsTrue (is_present a) → IsTrue (is_present b) → MatchOption (union a b) ⊥ (IsTightestAt a b)

-- ---- of many bounds

-- bounds that are grouped in pairs
pub data BoundTree (T : Type 0) : Type 0 where
  leaf : Precision T → BoundTree T
  fork : BoundTree T → BoundTree T → BoundTree T

module _ {T : Type 0} where
  -- the bounds from the left
  abbrev pub leaves : BoundTree T → List (Precision T)
  leaves (leaf b) = b ∷ []
  leaves (fork s t) = leaves s ++ leaves t

  abbrev pub ArePresent : List (Precision T) → Type 0
  ArePresent bs = All (λ b. IsTrue (is_present b)) bs

module _ {T : Type 0} (union : Precision T → Precision T → Option (Precision T)) where
  -- the union of two, none where either is none
  abbrev pub union_of_two : Option (Precision T) → Option (Precision T) → Option (Precision T)
  union_of_two (Some a) (Some b) = union a b
  union_of_two (Some a) None = None
  union_of_two None q = None

  -- the union of a group is that of its two sides' unions
  abbrev pub tree_union : BoundTree T → Option (Precision T)
  tree_union (leaf b) = Some b
  tree_union (fork s t) = union_of_two (tree_union s) (tree_union t)

-- w is the value of a bound of the list
abbrev pub HasValue : {T : Type 0} → List (Precision T) → T → Type 0
HasValue bs w = Contains bs (Exact w) ⊎ Contains bs (Inexact w)

module _ {T : Type 0} (R : T → T → Ordering) where
  -- an exact bound of the list has a value that compares equal to w
  abbrev pub HasExact : List (Precision T) → T → Type 0
  HasExact bs w = (v : T) × Contains bs (Exact v) × (R v w ≡ Equal)

  -- w is the greatest value in the list
  pub record IsGreatest (bs : List (Precision T)) (w : T) : Type 0 where
    pub reached : HasValue bs w
    pub above : (v : T) → HasValue bs v → AtMost R v w

  -- w is the least value in the list
  pub record IsLeast (bs : List (Precision T)) (w : T) : Type 0 where
    pub reached : HasValue bs w
    pub below : (v : T) → HasValue bs v → AtMost R w v

  -- the greatest value in the list, exact if an exact bound has it and inexact if none has
  abbrev pub IsGreatestOf : List (Precision T) → Precision T → Type 0
  IsGreatestOf bs (Exact w) = IsGreatest bs w × HasExact bs w
  IsGreatestOf bs (Inexact w) = IsGreatest bs w × ¬ HasExact bs w
  IsGreatestOf bs Absent = ⊥

  -- the least value in the list, exact if an exact bound has it and inexact if none has
  abbrev pub IsLeastOf : List (Precision T) → Precision T → Type 0
  IsLeastOf bs (Exact w) = IsLeast bs w × HasExact bs w
  IsLeastOf bs (Inexact w) = IsLeast bs w × ¬ HasExact bs w
  IsLeastOf bs Absent = ⊥

  -- both are present, in the same case, and their values compare equal
  abbrev pub AreAlike : Precision T → Precision T → Type 0
  AreAlike (Exact v) (Exact w) = R v w ≡ Equal
  AreAlike (Exact v) (Inexact w) = ⊥
  AreAlike (Exact v) Absent = ⊥
  AreAlike (Inexact v) (Exact w) = ⊥
  AreAlike (Inexact v) (Inexact w) = R v w ≡ Equal
  AreAlike (Inexact v) Absent = ⊥
  AreAlike Absent b = ⊥

  -- there is an answer on both sides, and the two are alike
  abbrev pub AnswersAlike : Option (Precision T) → Option (Precision T) → Type 0
  AnswersAlike (Some a) (Some b) = AreAlike a b
  AnswersAlike (Some a) None = ⊥
  AnswersAlike None q = ⊥
