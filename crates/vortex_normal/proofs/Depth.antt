-- Predicates that are joined two by two lie no deeper than the logarithm of their number below the whole.
use Rattle.std.proofs.Common.{◌≡◌, ℕ, zero, suc, ◌+◌, ◌^◌, ◌≤◌, Bool, true, false, ◌&&◌, List, [], ◌∷◌, Option, Some, None, length, map, refl, subst, arith, if◌then◌else◌}
use Rattle.std.proofs.Math.Nat.{pow-suc}
use Rattle.std.specs.List.{AllByRecursion}
use Rattle.vortex_expr.specs.Trees.Tree.{Tree, Place, column, binary}
use Rattle.vortex_base.specs.declared.scalar_value.ScalarValue.{ScalarValue}
use Rattle.vortex_expr.specs.declared.scalar_fn.Operator.TheVariants.{Eq, Or}
use Rattle.vortex_expr.specs.declared.scalar_fn.StrictComparison.TheVariants.{NonStrict}
use Rattle.vortex_rewrite.specs.Rewriting.Falsifiers.{bool_literal}
use Rattle.vortex_normal.specs.Balanced.{balanced, in_turns, paired}
use Rattle.vortex_normal.specs.Groups.{Item, item_test}
use Rattle.vortex_normal.specs.Intervals.{Cut, Lowest, Before, After, Highest, Interval, all_but, at_most, between_cuts, interval_test, literal_as, only_hole, range_of}
use Rattle.vortex_normal.specs.Laws.{ChainsAreShallow, IsShallow, SetsAreShallow}
use Rattle.vortex_normal.specs.Pushed.{all_by, all_of, any_by, any_of, connected, decided}
use Rattle.vortex_normal.proofs.Forms.{connected_kept}
use Rattle.vortex_normal.proofs.Pairs.{first_has, half}

-- ---- a turn adds one node

deeper : (d : ℕ) (es : List (Tree Place)) → AllByRecursion (IsShallow d) es → (k : ℕ) → AllByRecursion (IsShallow (d + k)) es
deeper d [] h k = tt
deeper d (e ∷ es) h k = (omega (arith, h.0), deeper d es h.1 k)

join_shallow : (w : Bool) (d : ℕ) (a b : Tree Place) → IsShallow d a → IsShallow d b → IsShallow (d + 1) (connected w a b)
join_shallow w d a b h k = connected_kept (IsShallow (d + 1)) a b (omega (arith, h)) (omega (arith, k)) w (omega (arith, h, k)) (omega (arith, h, k))

paired_shallow : (w : Bool) (d : ℕ) (es : List (Tree Place)) → AllByRecursion (IsShallow d) es → AllByRecursion (IsShallow (d + 1)) (paired w es)
paired_shallow w d [] h = tt
paired_shallow w d (a ∷ []) h = deeper d (a ∷ []) h 1
paired_shallow w d (a ∷ b ∷ es) h = (join_shallow w d a b h.0 h.1.0, paired_shallow w d es h.1.1)

-- ---- as many turns as the logarithm of their number leave one

halved : (w : Bool) (k : ℕ) (es : List (Tree Place)) → length es ≤ 2 ^ suc k → length (paired w es) ≤ 2 ^ k
halved w k es h = omega (arith, h, half w es, pow-suc 2 k)

turns_shallow : (w : Bool) (n k d : ℕ) (es : List (Tree Place)) → length es ≤ 2 ^ k → AllByRecursion (IsShallow d) es → AllByRecursion (IsShallow (d + k)) (in_turns n w es)
turns_shallow w zero k d es l h = deeper d es h k
turns_shallow w (suc n) k d [] l h = turns_shallow w n k d [] l h
turns_shallow w (suc n) k d (a ∷ []) l h = turns_shallow w n k d (a ∷ []) l h
turns_shallow w (suc n) zero d (a ∷ b ∷ es) l h = absurd (omega (arith, l))
turns_shallow w (suc n) (suc k) d (a ∷ b ∷ es) l h =
    let sum : (d + 1) + k ≡ d + suc k = omega arith in
    subst (λ m. AllByRecursion (IsShallow m) (in_turns n w (paired w (a ∷ b ∷ es)))) sum
    (turns_shallow w n k (d + 1) (paired w (a ∷ b ∷ es)) (halved w k (a ∷ b ∷ es) l) (paired_shallow w d (a ∷ b ∷ es) h))

truth_shallow : (w : Bool) (d : ℕ) → IsShallow d (bool_literal w)
truth_shallow true d = omega arith
truth_shallow false d = omega arith

balanced_shallow : (w : Bool) (k d : ℕ) (es : List (Tree Place)) → length es ≤ 2 ^ k → AllByRecursion (IsShallow d) es → IsShallow (d + k) (balanced w es)
balanced_shallow w k d es l h =
    first_has (IsShallow (d + k)) (bool_literal w) (in_turns (length es) w es) (truth_shallow w (d + k)) (turns_shallow w (length es) k d es l h)

-- ---- chains

-- the truth that joining adds nothing to adds no node
with_truth : (P : Tree Place → Type 0) (w : Bool) (e : Tree Place) → P e → P (bool_literal w) → P (connected w e (bool_literal w))
unfolding all_of any_of
with_truth P true e h k = by_first (decided e)
  where
    by_first : (a : Option Bool) → P (all_by a (Some true) e (bool_literal true))
    by_first None = h
    by_first (Some true) = k
    by_first (Some false) = h
with_truth P false e h k = by_first (decided e)
  where
    by_first : (a : Option Bool) → P (any_by a (Some false) e (bool_literal false))
    by_first None = h
    by_first (Some true) = h
    by_first (Some false) = k

tests_shallow : (w : Bool) (d : ℕ) (is : List Item) → AllByRecursion (λ i. IsShallow d (item_test w i)) is → AllByRecursion (IsShallow d) (map (item_test w) is)
tests_shallow w d [] h = tt
tests_shallow w d (i ∷ is) h = (h.0, tests_shallow w d is h.1)

tests_counted : (w : Bool) (is : List Item) → length (map (item_test w) is) ≡ length is
tests_counted w [] = refl
tests_counted w (i ∷ is) = omega (arith, tests_counted w is)

pub chains_are_shallow : ChainsAreShallow
chains_are_shallow w is d k h l =
    let tests = map (item_test w) is in
    with_truth (IsShallow (d + k)) w (balanced w tests)
    (balanced_shallow w k d tests (omega (arith, l, tests_counted w is)) (tests_shallow w d is h))
    (truth_shallow w (d + k))

-- ---- sets

module _ (c : Place) where
  closed_shallow : (l u : ScalarValue) (b : Bool) → IsShallow 1 (if b then binary Eq (column c) (literal_as c l) else range_of c (record { lower_strict = NonStrict; upper_strict = NonStrict }) l u)
  closed_shallow l u true = omega arith
  closed_shallow l u false = omega arith

  cuts_shallow : (l u : Cut) → IsShallow 1 (between_cuts c l u)
  cuts_shallow Lowest Highest = omega arith
  cuts_shallow Lowest (Before u) = omega arith
  cuts_shallow Lowest (After u) = omega arith
  cuts_shallow (Before l) Highest = omega arith
  cuts_shallow (After l) Highest = omega arith
  cuts_shallow (Before l) (Before u) = omega arith
  cuts_shallow (Before l) (After u) = closed_shallow l u (at_most u l && at_most l u)
  cuts_shallow (After l) (Before u) = omega arith
  cuts_shallow (After l) (After u) = omega arith
  cuts_shallow Lowest Lowest = omega arith
  cuts_shallow (Before l) Lowest = omega arith
  cuts_shallow (After l) Lowest = omega arith
  cuts_shallow Highest Lowest = omega arith
  cuts_shallow Highest (Before u) = omega arith
  cuts_shallow Highest (After u) = omega arith
  cuts_shallow Highest Highest = omega arith

  hole_shallow : (v : Option ScalarValue) (e : Tree Place) → IsShallow 2 e → IsShallow 2 (all_but c v e)
  hole_shallow (Some v) e h = omega arith
  hole_shallow None e h = h

  two_shallow : (i j : Interval) → IsShallow 2 (all_but c (only_hole i j) (binary Or (between_cuts c i.low i.high) (between_cuts c j.low j.high)))
  two_shallow i j =
      let h = cuts_shallow i.low i.high in
      let k = cuts_shallow j.low j.high in
      hole_shallow (only_hole i j) (binary Or (between_cuts c i.low i.high) (between_cuts c j.low j.high)) (omega (arith, h, k))

  intervals_shallow : (is : List Interval) → AllByRecursion (IsShallow 1) (map (interval_test c) is)
  intervals_shallow [] = tt
  intervals_shallow (i ∷ is) = (cuts_shallow i.low i.high, intervals_shallow is)

  intervals_counted : (is : List Interval) → length (map (interval_test c) is) ≡ length is
  intervals_counted [] = refl
  intervals_counted (i ∷ is) = omega (arith, intervals_counted is)

pub sets_are_shallow : SetsAreShallow
sets_are_shallow c [] k l = omega arith
sets_are_shallow c (i ∷ []) k l = let h = cuts_shallow c i.low i.high in omega (arith, h)
sets_are_shallow c (i ∷ j ∷ []) zero l = absurd (omega (arith, l))
sets_are_shallow c (i ∷ j ∷ []) (suc k) l = let h = two_shallow c i j in omega (arith, h)
sets_are_shallow c (i ∷ j ∷ m ∷ is) k l =
    let tests = map (interval_test c) (i ∷ j ∷ m ∷ is) in
    balanced_shallow false k 1 tests (omega (arith, l, intervals_counted c (i ∷ j ∷ m ∷ is))) (intervals_shallow c (i ∷ j ∷ m ∷ is))
