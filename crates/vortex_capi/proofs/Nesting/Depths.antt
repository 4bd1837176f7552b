-- How deep joined items lie.
use Rattle.std.proofs.Common.{◌≡◌, ℕ, zero, suc, ◌+◌, ◌^◌, ◌≤◌, ◌<◌, Bool, List, [], ◌∷◌, ◌++◌, length, max, refl, subst, arith}
use Rattle.std.proofs.Math.Nat.{pow-suc}
use Rattle.std.specs.List.{AllByRecursion}
use Rattle.vortex_expr.specs.Trees.Tree.{Tree, Place, binary}
use Rattle.vortex_rewrite.specs.Rewriting.Falsifiers.{bool_literal}
use Rattle.vortex_normal.specs.Balanced.{depth}
use Rattle.vortex_expr.specs.Trees.Connectives.{operator_of}
use Rattle.vortex_capi.specs.Nesting.Halves.{first_or, in_turns, joined, paired}
use Rattle.vortex_capi.specs.Nesting.Laws.{ChainsAreShallow, IsShallow}
use Rattle.vortex_capi.specs.Nesting.Nodes.{deepest}
use Rattle.vortex_capi.proofs.Nesting.Pairs.{half, one_left}

pub deepest_append : (es ds : List (Tree Place)) → deepest (es ++ ds) ≡ max (deepest es) (deepest ds)
deepest_append [] ds = omega arith
deepest_append (e ∷ es) ds = omega (arith, deepest_append es ds)

pub deepest_paired : (w : Bool) (es : List (Tree Place)) → deepest es ≤ deepest (paired w es)
deepest_paired w [] = omega arith
deepest_paired w (a ∷ []) = omega arith
deepest_paired w (a ∷ b ∷ es) = omega (arith, deepest_paired w es)

-- ---- the whole is no less deep than an item, and deeper if there are two

deepest_turned : (w : Bool) (n : ℕ) (es : List (Tree Place)) → deepest es ≤ deepest (in_turns n w es)
deepest_turned w zero es = omega arith
deepest_turned w (suc n) es = omega (arith, deepest_paired w es, deepest_turned w n (paired w es))

deepest_first : (d : Tree Place) (es : List (Tree Place)) → length es ≤ 1 → deepest es ≤ depth (first_or d es)
deepest_first d [] h = omega arith
deepest_first d (a ∷ []) h = omega arith
deepest_first d (a ∷ b ∷ es) h = absurd (omega (arith, h))

pub deepest_joined : (w : Bool) (es : List (Tree Place)) → deepest es ≤ depth (joined w es)
deepest_joined w es =
    let turned = in_turns (length es) w es in
    let h = deepest_first (bool_literal w) turned (one_left w (length es) es (omega arith)) in
    omega (arith, h, deepest_turned w (length es) es)

lone_stays : (w : Bool) (n : ℕ) (e : Tree Place) → in_turns n w (e ∷ []) ≡ e ∷ []
lone_stays w zero e = refl
lone_stays w (suc n) e = lone_stays w n e

turns_deeper : (w : Bool) (n : ℕ) (a b d : Tree Place) (es : List (Tree Place)) → length es + 2 ≤ suc n → deepest (a ∷ b ∷ es) < depth (first_or d (in_turns n w (a ∷ b ∷ es)))
turns_deeper w zero a b d es h = absurd (omega (arith, h))
turns_deeper w (suc n) a b d [] h = rw (lone_stays w n (binary (operator_of w) a b)) (omega arith)
turns_deeper w (suc n) a b d (c ∷ []) h = omega (arith, turns_deeper w n (binary (operator_of w) a b) c d [] (omega (arith, h)))
turns_deeper w (suc n) a b d (c ∷ e ∷ es) h =
    omega (arith, turns_deeper w n (binary (operator_of w) a b) (binary (operator_of w) c e) d (paired w es) (omega (arith, h, half w es)), deepest_paired w es)

pub items_deeper : (w : Bool) (es : List (Tree Place)) → 2 ≤ length es → deepest es < depth (joined w es)
items_deeper w [] h = absurd (omega (arith, h))
items_deeper w (a ∷ []) h = absurd (omega (arith, h))
items_deeper w (a ∷ b ∷ es) h = turns_deeper w (length (a ∷ b ∷ es)) a b (bool_literal w) es (omega arith)

-- ---- as many turns as the logarithm of their number leave one

deeper : (d : ℕ) (es : List (Tree Place)) → AllByRecursion (IsShallow d) es → (k : ℕ) → AllByRecursion (IsShallow (d + k)) es
deeper d [] h k = tt
deeper d (e ∷ es) h k = (omega (arith, h.0), deeper d es h.1 k)

paired_shallow : (w : Bool) (d : ℕ) (es : List (Tree Place)) → AllByRecursion (IsShallow d) es → AllByRecursion (IsShallow (d + 1)) (paired w es)
paired_shallow w d [] h = tt
paired_shallow w d (a ∷ []) h = deeper d (a ∷ []) h 1
paired_shallow w d (a ∷ b ∷ es) h = (omega (arith, h.0, h.1.0), paired_shallow w d es h.1.1)

fewer_pairs : (w : Bool) (k : ℕ) (es : List (Tree Place)) → length es ≤ 2 ^ suc k → length (paired w es) ≤ 2 ^ k
fewer_pairs w k es h = omega (arith, h, half w es, pow-suc 2 k)

turns_shallow : (w : Bool) (n k d : ℕ) (es : List (Tree Place)) → length es ≤ 2 ^ k → AllByRecursion (IsShallow d) es → AllByRecursion (IsShallow (d + k)) (in_turns n w es)
turns_shallow w zero k d es l h = deeper d es h k
turns_shallow w (suc n) k d [] l h = turns_shallow w n k d [] l h
turns_shallow w (suc n) k d (a ∷ []) l h = turns_shallow w n k d (a ∷ []) l h
turns_shallow w (suc n) zero d (a ∷ b ∷ es) l h = absurd (omega (arith, l))
turns_shallow w (suc n) (suc k) d (a ∷ b ∷ es) l h =
    let sum : (d + 1) + k ≡ d + suc k = omega arith in
    subst (λ m. AllByRecursion (IsShallow m) (in_turns n w (paired w (a ∷ b ∷ es)))) sum
    (turns_shallow w n k (d + 1) (paired w (a ∷ b ∷ es)) (fewer_pairs w k (a ∷ b ∷ es) l) (paired_shallow w d (a ∷ b ∷ es) h))

first_shallow : (d : ℕ) (e : Tree Place) (es : List (Tree Place)) → IsShallow d e → AllByRecursion (IsShallow d) es → IsShallow d (first_or e es)
first_shallow d e [] h k = h
first_shallow d e (a ∷ es) h k = k.0

pub chains_are_shallow : ChainsAreShallow
chains_are_shallow w es d k l h = first_shallow (d + k) (bool_literal w) (in_turns (length es) w es) (omega arith) (turns_shallow w (length es) k d es l h)
