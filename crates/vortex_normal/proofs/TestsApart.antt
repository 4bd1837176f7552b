-- Predicates of which no two have a column in common, joined two by two, are one that bounds decide.
use Rattle.std.proofs.Common.{◌≡◌, ℕ, Bool, true, false, not as not_b, ◌||◌, List, [], ◌∷◌, ◌++◌, length, refl, ap}
use Rattle.std.specs.Prelude.{◌==◌}
use Rattle.std.specs.List.{AllByRecursion}
use Rattle.std.proofs.lemmas.Bool.{and_parts, not-true}
use Rattle.vortex_base.specs.Data.Exact.{both_hold}
use Rattle.vortex_expr.specs.Trees.Tree.{Tree, Place, binary}
use Rattle.vortex_expr.specs.declared.scalar_fn.Operator.TheVariants.{And}
use Rattle.vortex_rewrite.specs.Rewriting.Falsifiers.{bool_literal}
use Rattle.vortex_rewrite.specs.Rewriting.ReadOnce.{are_apart, are_sides_apart, columns_of, has_index, has_disjoint_ands, is_simple}
use Rattle.vortex_normal.specs.Balanced.{balanced, first_or, in_turns, paired}
use Rattle.vortex_normal.specs.Pushed.{all_of, connected, decided}
use Rattle.vortex_normal.proofs.Pairs.{paired_have, turns_keep}
use Rattle.vortex_normal.proofs.Forms.{all_by_kept}

-- ---- lists of columns that are apart

none_apart : (cs : List Place) → are_apart cs [] ≡ true
none_apart [] = refl
none_apart (c ∷ cs) = none_apart cs

in_neither : (b c d : Bool) → (b || c) ≡ false → (c ≡ false → d ≡ false) → (b || d) ≡ false
in_neither true c d h f = h
in_neither false c d h f = f h

not_in_both : (i : ℕ) (ds es : List Place) → has_index i ds ≡ false → has_index i es ≡ false → has_index i (ds ++ es) ≡ false
not_in_both i [] es h k = k
not_in_both i (d ∷ ds) es h k = in_neither (i == d.index) (has_index i ds) (has_index i (ds ++ es)) h (λ r. not_in_both i ds es r k)

apart_behind : (cs ds es : List Place) → are_apart cs ds ≡ true → are_apart cs es ≡ true → are_apart cs (ds ++ es) ≡ true
apart_behind [] ds es h k = refl
apart_behind (c ∷ cs) ds es h k =
    let a = and_parts (not_b (has_index c.index ds)) (are_apart cs ds) h in
    let b = and_parts (not_b (has_index c.index es)) (are_apart cs es) k in
    both_hold _ _
    (ap not_b (not_in_both c.index ds es (not-true (has_index c.index ds) a.0) (not-true (has_index c.index es) b.0)))
    (apart_behind cs ds es a.1 b.1)

apart_before : (cs ds es : List Place) → are_apart cs es ≡ true → are_apart ds es ≡ true → are_apart (cs ++ ds) es ≡ true
apart_before [] ds es h k = k
apart_before (c ∷ cs) ds es h k =
    let a = and_parts (not_b (has_index c.index es)) (are_apart cs es) h in
    both_hold _ _ a.0 (apart_before cs ds es a.1 k)

-- ---- predicates that are apart

pub and_apart : (l r : Tree Place) → has_disjoint_ands l ≡ true → has_disjoint_ands r ≡ true → are_apart (columns_of l) (columns_of r) ≡ true → has_disjoint_ands (binary And l r) ≡ true
and_apart l r h k a =
    let p = and_parts (is_simple l) (are_sides_apart l) h in
    let q = and_parts (is_simple r) (are_sides_apart r) k in
    both_hold _ _ (both_hold _ _ p.0 q.0) (both_hold _ _ a (both_hold _ _ p.1 q.1))

both_apart : (l r : Tree Place) → has_disjoint_ands l ≡ true → has_disjoint_ands r ≡ true → are_apart (columns_of l) (columns_of r) ≡ true → has_disjoint_ands (connected true l r) ≡ true
unfolding all_of
both_apart l r h k a = all_by_kept (λ e. has_disjoint_ands e ≡ true) l r h k (decided l) (decided r) (and_apart l r h k a)

-- a predicate's columns are apart from the list's
abbrev pub IsApartFrom : List Place → Tree Place → Type 0
IsApartFrom cs e = are_apart cs (columns_of e) ≡ true

-- each is decided by bounds, and has no column in common with one behind it
abbrev pub AreApart : List (Tree Place) → Type 0
AreApart [] = Unit {0}
AreApart (e ∷ es) = (has_disjoint_ands e ≡ true) × (AllByRecursion (IsApartFrom (columns_of e)) es × AreApart es)

both_from : (cs : List Place) (l r : Tree Place) → IsApartFrom cs l → IsApartFrom cs r → IsApartFrom cs (connected true l r)
unfolding all_of
both_from cs l r h k = all_by_kept (IsApartFrom cs) l r h k (decided l) (decided r) (apart_behind cs (columns_of l) (columns_of r) h k)

all_from_both : (cs ds : List Place) (es : List (Tree Place)) → AllByRecursion (IsApartFrom cs) es → AllByRecursion (IsApartFrom ds) es → AllByRecursion (IsApartFrom (cs ++ ds)) es
all_from_both cs ds [] h k = tt
all_from_both cs ds (e ∷ es) h k = (apart_before cs ds (columns_of e) h.0 k.0, all_from_both cs ds es h.1 k.1)

from_both : (l r : Tree Place) (es : List (Tree Place)) → AllByRecursion (IsApartFrom (columns_of l)) es → AllByRecursion (IsApartFrom (columns_of r)) es → AllByRecursion (IsApartFrom (columns_of (connected true l r))) es
unfolding all_of
from_both l r es h k =
    all_by_kept (λ e. AllByRecursion (IsApartFrom (columns_of e)) es) l r h k (decided l) (decided r)
    (all_from_both (columns_of l) (columns_of r) es h k)

paired_apart : (es : List (Tree Place)) → AreApart es → AreApart (paired true es)
paired_apart [] h = tt
paired_apart (a ∷ []) h = h
paired_apart (a ∷ b ∷ es) h =
    let cs = columns_of (connected true a b) in (
      both_apart a b h.0 h.1.1.0 h.1.0.0,
      (
        paired_have (IsApartFrom cs) true (both_from cs) es (from_both a b es h.1.0.1 h.1.1.1.0),
        paired_apart es h.1.1.1.1,
      ),
    )

first_apart : (es : List (Tree Place)) → AreApart es → has_disjoint_ands (first_or (bool_literal true) es) ≡ true
first_apart [] h = refl
first_apart (e ∷ es) h = h.0

balanced_apart : (es : List (Tree Place)) → AreApart es → has_disjoint_ands (balanced true es) ≡ true
balanced_apart es h = first_apart (in_turns (length es) true es) (turns_keep AreApart true paired_apart (length es) es h)

pub all_apart : (es : List (Tree Place)) → AreApart es → has_disjoint_ands (connected true (balanced true es) (bool_literal true)) ≡ true
all_apart es h = both_apart (balanced true es) (bool_literal true) (balanced_apart es h) refl (none_apart (columns_of (balanced true es)))
