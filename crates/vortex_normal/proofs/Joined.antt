-- The normal form of a joining of predicates over different columns is one that bounds decide.
use Rattle.std.proofs.Common.{◌≡◌, ⊎_elim, inl, inr, ℕ, Bool, true, false, not as not_b, ◌||◌, List, [], ◌∷◌, ◌++◌, None, map, refl, sym, ap, ap₂, ◌∙◌, subst, arith, if◌then◌else◌}
use Rattle.std.specs.Prelude.{IsTrue, ◌==◌}
use mathlib.Core.List.{append_assoc, append-nil}
use Rattle.std.specs.List.{AllByRecursion}
use Rattle.std.proofs.lemmas.Bool.{and_parts, not-true, or_parts}
use Rattle.std.proofs.lemmas.Bool.Decides.{nat_tests}
use Rattle.vortex_base.specs.Data.Exact.{both_hold}
use Rattle.vortex_expr.specs.Trees.Tree.{Tree, Place, all_columns, column, literal, binary, between, is_null, is_not_null, not, like, stat, row_count, has_placeholder}
use Rattle.vortex_expr.specs.declared.scalar_fn.Operator.TheVariants.{Eq, NotEq, Gt, Gte, Lt, Lte, And, Or}
use Rattle.vortex_rewrite.proofs.Completeness.Choices.{all_map}
use Rattle.vortex_rewrite.proofs.Soundness.TruthLogic.{clash, refuted}
use Rattle.vortex_rewrite.specs.Rewriting.Falsifiers.{bool_literal}
use Rattle.vortex_rewrite.specs.Rewriting.Predicates.{is_predicate}
use Rattle.vortex_rewrite.specs.Rewriting.ReadOnce.{are_apart, columns_of, has_index, has_disjoint_ands}
use Rattle.vortex_normal.specs.Balanced.{balanced}
use Rattle.vortex_normal.specs.Groups.{Item, inside, other, add, add_sets, as_one, collected, grouped, is_of, item_test, items_test, leaf_item, lone_item, widened}
use Rattle.vortex_normal.specs.Intervals.{Interval}
use Rattle.vortex_normal.specs.OneColumn.{IsJoining, IsOneOf, IsSelective, JoiningsAreApart, OneColumnIsApart, are_ends_seen, is_over}
use Rattle.vortex_normal.specs.Pushed.{all_of, connected, decided, pushed}
use Rattle.vortex_normal.proofs.Pairs.{balanced_has}
use Rattle.vortex_normal.proofs.Columns.{all_indexed, each_column, eqb_same, no_placeholder, plain_columns, same_place, weaker}
use Rattle.vortex_normal.proofs.GroupsKept.{Has, Have, as_one_has, collected_have, columns_down, item_has, leaf_has}
use Rattle.vortex_normal.proofs.Kept.{Holds, columns_inherited, columns_kept}
use Rattle.vortex_normal.proofs.OneColumn.{is_chain, pushed_over, undecided}
use Rattle.vortex_normal.proofs.OneColumnApart.{chain_apart, either_apart}
use Rattle.vortex_normal.proofs.Steps.{negated_predicate, operand, sides}
use Rattle.vortex_normal.proofs.TestsApart.{AreApart, IsApartFrom, all_apart}
use Rattle.vortex_normal.proofs.Truths.{IsTruthOr, connected_truth_or}

-- ---- columns in a list, and columns apart from it

abbrev within : List Place → Place → Bool
within ds c = has_index c.index ds

abbrev avoids : List Place → Place → Bool
avoids ds c = not_b (has_index c.index ds)

test_turned : (i j : ℕ) → (i == j) ≡ (j == i)
test_turned i j = grind (arith, nat_tests)

-- an index that is in the one list isn't in one that is apart from it
not_in : (ds cs : List Place) → AllByRecursion (λ c. avoids ds c ≡ true) cs → (i : ℕ) → has_index i ds ≡ true → has_index i cs ≡ false
not_in ds [] h i there = refl
not_in ds (c ∷ cs) h i there =
    ap₂ ◌||◌
    (refuted (i == c.index) (λ e. clash (sym (ap (λ j. has_index j ds) (eqb_same i c.index e)) ∙ there) (not-true (has_index c.index ds) h.0)))
    (not_in ds cs h.1 i there)

none_is : (c : Place) (ds cs : List Place) → AllByRecursion (λ d. avoids (c ∷ cs) d ≡ true) ds → has_index c.index ds ≡ false
none_is c [] cs h = refl
none_is c (d ∷ ds) cs h =
    let k = or_parts (d.index == c.index) (has_index d.index cs) (not-true ((d.index == c.index) || has_index d.index cs) h.0) in
    ap₂ ◌||◌ (test_turned c.index d.index ∙ k.0) (none_is c ds cs h.1)

apart_of : (cs ds : List Place) → AllByRecursion (λ d. avoids cs d ≡ true) ds → are_apart cs ds ≡ true
apart_of [] ds h = refl
apart_of (c ∷ cs) ds h =
    both_hold _ _ (ap not_b (none_is c ds cs h))
    (apart_of cs ds (all_map (λ d. avoids (c ∷ cs) d ≡ true) (λ d. avoids cs d ≡ true) ds
    (λ d k. ap not_b (or_parts (d.index == c.index) (has_index d.index cs) (not-true ((d.index == c.index) || has_index d.index cs) k)).1) h))

-- and back
all_avoid : (cs ds : List Place) → are_apart cs ds ≡ true → AllByRecursion (λ c. avoids ds c ≡ true) cs
all_avoid [] ds h = tt
all_avoid (c ∷ cs) ds h = let k = and_parts (avoids ds c) (are_apart cs ds) h in (k.0, all_avoid cs ds k.1)

-- ---- items whose columns pass a test

module _ (test : Place → Bool) where
  abbrev ItemPasses : Item → Type 0
  ItemPasses x = Has (Holds test) (columns_inherited test) (columns_down test) x

  abbrev Pass : List Item → Type 0
  Pass xs = Have (Holds test) (columns_inherited test) (columns_down test) xs

  passes_test : (w : Bool) (x : Item) → ItemPasses x → all_columns test (item_test w x) ≡ true
  passes_test w x h = item_has (Holds test) (columns_inherited test) (columns_down test) w x h

  passes_leaf : (e : Tree Place) → all_columns test e ≡ true → ItemPasses (leaf_item e)
  passes_leaf e h = leaf_has (Holds test) (columns_inherited test) (columns_down test) e h

  passes_one : (v : Bool) (xs : List Item) → Pass xs → ItemPasses (as_one v xs)
  passes_one v xs h = as_one_has (Holds test) (columns_inherited test) (columns_down test) v xs h

  pass_collected : (w : Bool) (e : Tree Place) (xs : List Item) → all_columns test e ≡ true → Pass xs → Pass (collected w e xs)
  pass_collected w e xs h k = collected_have (Holds test) (columns_inherited test) (columns_down test) w e xs h k

  pass_append : (xs ys : List Item) → Pass xs → Pass ys → Pass (xs ++ ys)
  pass_append [] ys h k = k
  pass_append (x ∷ xs) ys h k = (h.0, pass_append xs ys h.1 k)

item_weaker : (test other_test : Place → Bool) → ((c : Place) → test c ≡ true → other_test c ≡ true) → (x : Item) → ItemPasses test x → ItemPasses other_test x
item_weaker test other_test f (inside c m iss) h = f c h
item_weaker test other_test f (other e) h = weaker test other_test f e h

weaker_items : (test other_test : Place → Bool) → ((c : Place) → test c ≡ true → other_test c ≡ true) → (xs : List Item) → Pass test xs → Pass other_test xs
weaker_items test other_test f [] h = tt
weaker_items test other_test f (x ∷ xs) h = (item_weaker test other_test f x h.0, weaker_items test other_test f xs h.1)

-- ---- what is said of other columns is added behind

module _ (ds : List Place) where
  not_of : (w : Bool) (c d : Place) (m : Bool) (iss : List (List Interval)) (x : Item) (js ks : List Item) → has_index c.index ds ≡ true → ItemPasses (avoids ds) x → (b : Bool) → is_of c x ≡ b
      → add_sets w c m iss (js ++ ks) ≡ js ++ add_sets w c m iss ks
      → (if b then widened w m iss x ∷ (js ++ ks) else x ∷ add_sets w c m iss (js ++ ks)) ≡ x ∷ (js ++ add_sets w c m iss ks)
  not_of w c d m iss (inside f n jss) js ks there h true e r =
      clash there (ap (λ (p : Place). has_index p.index ds) (same_place c f e) ∙ not-true (has_index f.index ds) h)
  not_of w c d m iss (other q) js ks there h true e r = cc
  not_of w c d m iss x js ks there h false e r = ap (λ l. x ∷ l) r

  sets_behind : (w : Bool) (c : Place) (m : Bool) (iss : List (List Interval)) (js ks : List Item) → has_index c.index ds ≡ true → Pass (avoids ds) js → add_sets w c m iss (js ++ ks) ≡ js ++ add_sets w c m iss ks
  sets_behind w c m iss [] ks there h = refl
  sets_behind w c m iss (j ∷ js) ks there h = not_of w c c m iss j js ks there h.0 (is_of c j) refl (sets_behind w c m iss js ks there h.1)

  add_behind : (w : Bool) (x : Item) (js ks : List Item) → ItemPasses (within ds) x → Pass (avoids ds) js → add w x (js ++ ks) ≡ js ++ add w x ks
  add_behind w (inside c m iss) js ks h k = sets_behind w c m iss js ks h k
  add_behind w (other e) js ks h k = append_assoc js ks (other e ∷ [])

  leaf_behind : (w : Bool) (e : Tree Place) (js ks : List Item) → all_columns (within ds) e ≡ true → Pass (avoids ds) js → add w (leaf_item e) (js ++ ks) ≡ js ++ add w (leaf_item e) ks
  leaf_behind w e js ks h k = add_behind w (leaf_item e) js ks (passes_leaf (within ds) e h) k

  inner_passes : (v : Bool) (l r : Tree Place) → all_columns (within ds) l ≡ true → all_columns (within ds) r ≡ true → ItemPasses (within ds) (as_one v (collected v r (collected v l [])))
  inner_passes v l r h k = passes_one (within ds) v (collected v r (collected v l [])) (pass_collected (within ds) v r (collected v l []) k (pass_collected (within ds) v l [] h tt))

  collected_behind : (w : Bool) (e : Tree Place) (js ks : List Item) → all_columns (within ds) e ≡ true → Pass (avoids ds) js → collected w e (js ++ ks) ≡ js ++ collected w e ks
  collected_behind true (binary And l r) js ks h k =
      let p = and_parts (all_columns (within ds) l) (all_columns (within ds) r) h in
      ap (collected true r) (collected_behind true l js ks p.0 k) ∙ collected_behind true r js (collected true l ks) p.1 k
  collected_behind false (binary And l r) js ks h k =
      let p = and_parts (all_columns (within ds) l) (all_columns (within ds) r) h in
      add_behind false (as_one true (collected true r (collected true l []))) js ks (inner_passes true l r p.0 p.1) k
  collected_behind true (binary Or l r) js ks h k =
      let p = and_parts (all_columns (within ds) l) (all_columns (within ds) r) h in
      add_behind true (as_one false (collected false r (collected false l []))) js ks (inner_passes false l r p.0 p.1) k
  collected_behind false (binary Or l r) js ks h k =
      let p = and_parts (all_columns (within ds) l) (all_columns (within ds) r) h in
      ap (collected false r) (collected_behind false l js ks p.0 k) ∙ collected_behind false r js (collected false l ks) p.1 k
  collected_behind w (binary Eq l r) js ks h k = leaf_behind w (binary Eq l r) js ks h k
  collected_behind w (binary NotEq l r) js ks h k = leaf_behind w (binary NotEq l r) js ks h k
  collected_behind w (binary Gt l r) js ks h k = leaf_behind w (binary Gt l r) js ks h k
  collected_behind w (binary Gte l r) js ks h k = leaf_behind w (binary Gte l r) js ks h k
  collected_behind w (binary Lt l r) js ks h k = leaf_behind w (binary Lt l r) js ks h k
  collected_behind w (binary Lte l r) js ks h k = leaf_behind w (binary Lte l r) js ks h k
  collected_behind w e js ks h k = leaf_behind w e js ks h k

-- ---- items that bounds decide: those of an AND have no column in common

abbrev AreApartFrom : (is_and : Bool) → Item → List Item → Type 0
AreApartFrom true x xs = Pass (avoids (columns_of (item_test true x))) xs
AreApartFrom false x xs = Unit {0}

abbrev AreDecided : (is_and : Bool) → List Item → Type 0
AreDecided w [] = Unit {0}
AreDecided w (x ∷ xs) = (has_disjoint_ands (item_test w x) ≡ true) × (AreApartFrom w x xs × AreDecided w xs)

module _ (ds : List Place) where
  avoid_item : (x : Item) → ItemPasses (avoids ds) x → (c : Place) → within ds c ≡ true → avoids (columns_of (item_test true x)) c ≡ true
  avoid_item x h c there =
      ap not_b (not_in ds (columns_of (item_test true x)) (each_column (avoids ds) (item_test true x) (passes_test (avoids ds) true x h)) c.index there)

  apart_append : (w : Bool) (x : Item) (xs ys : List Item) → ItemPasses (avoids ds) x → AreApartFrom w x xs → Pass (within ds) ys → AreApartFrom w x (xs ++ ys)
  apart_append true x xs ys h k r =
      pass_append (avoids (columns_of (item_test true x))) xs ys k (weaker_items (within ds) (avoids (columns_of (item_test true x))) (avoid_item x h) ys r)
  apart_append false x xs ys h k r = tt

  decided_append : (w : Bool) (xs ys : List Item) → AreDecided w xs → AreDecided w ys → Pass (avoids ds) xs → Pass (within ds) ys → AreDecided w (xs ++ ys)
  decided_append w [] ys h k p q = k
  decided_append w (x ∷ xs) ys h k p q = (h.0, (apart_append w x xs ys p.0 h.1.0 q, decided_append w xs ys h.1.1 k p.1 q))

from_tests : (cs : List Place) (xs : List Item) → Pass (avoids cs) xs → AllByRecursion (IsApartFrom cs) (map (item_test true) xs)
from_tests cs [] h = tt
from_tests cs (x ∷ xs) h =
    let test = item_test true x in
    (apart_of cs (columns_of test) (each_column (avoids cs) test (passes_test (avoids cs) true x h.0)), from_tests cs xs h.1)

tests_apart : (xs : List Item) → AreDecided true xs → AreApart (map (item_test true) xs)
tests_apart [] h = tt
tests_apart (x ∷ xs) h = (h.0, (from_tests (columns_of (item_test true x)) xs h.1.0, tests_apart xs h.1.1))

either_tests : (xs : List Item) → AreDecided false xs → AllByRecursion (λ e. has_disjoint_ands e ≡ true) (map (item_test false) xs)
either_tests [] h = tt
either_tests (x ∷ xs) h = (h.0, either_tests xs h.1.1)

items_apart : (w : Bool) (xs : List Item) → AreDecided w xs → has_disjoint_ands (items_test w xs) ≡ true
items_apart true xs h = all_apart (map (item_test true) xs) (tests_apart xs h)
items_apart false xs h =
    let tests = map (item_test false) xs in
    either_apart (balanced false tests) (bool_literal false) (balanced_has (λ e. has_disjoint_ands e ≡ true) false either_apart tests refl (either_tests xs h)) refl

lone_apart : (v w : Bool) (x : Item) → has_disjoint_ands (item_test w x) ≡ true → has_disjoint_ands (item_test v (lone_item w x)) ≡ true
lone_apart v w (inside c m iss) h = h
lone_apart v w (other e) h = h

one_apart : (v w : Bool) (xs : List Item) → AreDecided w xs → has_disjoint_ands (item_test v (as_one w xs)) ≡ true
one_apart v w [] h = items_apart w [] h
one_apart v w (x ∷ []) h = lone_apart v w x h.0
one_apart v w (x ∷ y ∷ xs) h = items_apart w (x ∷ y ∷ xs) h

-- ---- trees whose items are decided, whichever chain they stand in

abbrev IsDecidedTree : Tree Place → Type 0
IsDecidedTree e = (decided e ≡ None) × ((w : Bool) → AreDecided w (collected w e []))

tree_undecided : (e : Tree Place) → IsDecidedTree e → decided e ≡ None
tree_undecided e h = h.0

alone : (v : Bool) (x : Item) → has_disjoint_ands (item_test v x) ≡ true → AreDecided v (add v x [])
alone true (inside c m iss) h = (h, (tt, tt))
alone true (other e) h = (h, (tt, tt))
alone false (inside c m iss) h = (h, (tt, tt))
alone false (other e) h = (h, (tt, tt))

module _ (ds : List Place) (l r : Tree Place) (apart : all_columns (avoids ds) l ≡ true) (inside_r : all_columns (within ds) r ≡ true) (dl : IsDecidedTree l) (dr : IsDecidedTree r) where
  both_decided : (w : Bool) → AreDecided w (collected w r (collected w l []))
  both_decided w =
      let front = pass_collected (avoids ds) w l [] apart tt in
      let e : collected w r (collected w l []) ≡ collected w l [] ++ collected w r [] =
      ap (collected w r) (sym (append-nil (collected w l []))) ∙ collected_behind ds w r (collected w l []) [] inside_r front in
      subst (AreDecided w) (sym e)
      (decided_append ds w (collected w l []) (collected w r []) (dl.1 w) (dr.1 w) front (pass_collected (within ds) w r [] inside_r tt))

  and_decided : IsDecidedTree (binary And l r)
  and_decided = (refl, and_in)
    where
      and_in : (w : Bool) → AreDecided w (collected w (binary And l r) [])
      and_in true = both_decided true
      and_in false = alone false (as_one true (collected true r (collected true l []))) (one_apart false true (collected true r (collected true l [])) (both_decided true))

  or_decided : IsDecidedTree (binary Or l r)
  or_decided = (refl, or_in)
    where
      or_in : (w : Bool) → AreDecided w (collected w (binary Or l r) [])
      or_in true = alone true (as_one false (collected false r (collected false l []))) (one_apart true false (collected false r (collected false l [])) (both_decided false))
      or_in false = both_decided false

-- ---- joinings, pushed down

abbrev IsSettled : Tree Place → Type 0
IsSettled e = IsTruthOr IsDecidedTree tree_undecided e

chain_decided : (c : Place) (p : Tree Place) → is_predicate p ≡ true → IsTrue (is_over c p) → IsTrue (are_ends_seen c p) → IsSelective c p → IsSettled (pushed true p)
chain_decided c p predicate over seen s = ⊎_elim (λ b. inl b) (λ h. inr (undecided c (pushed true p) h, items h)) (pushed_over c true p over)
  where
    items : is_chain c (pushed true p) ≡ true → (w : Bool) → AreDecided w (collected w (pushed true p) [])
    items h w =
        let one = chain_apart c p predicate over seen s h w in
        subst (AreDecided w) (sym one.1) (alone w (inside c false one.0) one.2)

one_settled : (w : Bool) (p : Tree Place) → is_predicate p ≡ true → IsOneOf w p → IsSettled (pushed w p)
one_settled true p predicate o = chain_decided o.0 p predicate o.1 o.2 o.3
one_settled false p predicate o = chain_decided o.0 (not p) (negated_predicate p predicate) o.1 o.2 o.3

settled_columns : (w : Bool) (p : Tree Place) (test : Place → Bool) → has_placeholder p ≡ false → AllByRecursion (λ c. test c ≡ true) (columns_of p) → all_columns test (pushed w p) ≡ true
settled_columns w p test plain h = columns_kept test w p (plain_columns test p plain h)

two_settled : (v w : Bool) (l r : Tree Place) → has_placeholder l ≡ false → has_placeholder r ≡ false → are_apart (columns_of l) (columns_of r) ≡ true → IsSettled (pushed w l) → IsSettled (pushed w r) → IsSettled (connected v (pushed w l) (pushed w r))
two_settled v w l r plain_l plain_r apart h k =
    let ds = columns_of r in
    let front = settled_columns w l (avoids ds) plain_l (all_avoid (columns_of l) ds apart) in
    let back = settled_columns w r (within ds) plain_r (all_indexed ds) in
    connected_truth_or IsDecidedTree tree_undecided v (pushed w l) (pushed w r) (λ a b. and_decided ds (pushed w l) (pushed w r) front back a b) (λ a b. or_decided ds (pushed w l) (pushed w r) front back a b) h k

joining_settled : (w : Bool) (p : Tree Place) → is_predicate p ≡ true → has_placeholder p ≡ false → IsJoining w p → IsSettled (pushed w p)
joining_settled w (binary And l r) predicate plain j =
    let t = sides And l r refl predicate in
    let n = or_parts (has_placeholder l) (has_placeholder r) plain in
    ⊎_elim {B = (IsJoining w l × IsJoining w r) × IsTrue (are_apart (columns_of l) (columns_of r))} (λ o. one_settled w (binary And l r) predicate o)
    (λ k. two_settled w w l r n.0 n.1 k.1 (joining_settled w l t.0 n.0 k.0.0) (joining_settled w r t.1 n.1 k.0.1)) j
joining_settled w (binary Or l r) predicate plain j =
    let t = sides Or l r refl predicate in
    let n = or_parts (has_placeholder l) (has_placeholder r) plain in
    ⊎_elim {B = (IsJoining w l × IsJoining w r) × IsTrue (are_apart (columns_of l) (columns_of r))} (λ o. one_settled w (binary Or l r) predicate o)
    (λ k. two_settled (not_b w) w l r n.0 n.1 k.1 (joining_settled w l t.0 n.0 k.0.0) (joining_settled w r t.1 n.1 k.0.1)) j
joining_settled w (not x) predicate plain j = joining_settled (not_b w) x (operand (not x) x refl predicate) plain j
joining_settled w (column c) predicate plain o = one_settled w (column c) predicate o
joining_settled w (literal c) predicate plain o = one_settled w (literal c) predicate o
joining_settled w (binary Eq l r) predicate plain o = one_settled w (binary Eq l r) predicate o
joining_settled w (binary NotEq l r) predicate plain o = one_settled w (binary NotEq l r) predicate o
joining_settled w (binary Gt l r) predicate plain o = one_settled w (binary Gt l r) predicate o
joining_settled w (binary Gte l r) predicate plain o = one_settled w (binary Gte l r) predicate o
joining_settled w (binary Lt l r) predicate plain o = one_settled w (binary Lt l r) predicate o
joining_settled w (binary Lte l r) predicate plain o = one_settled w (binary Lte l r) predicate o
joining_settled w (between o x l u) predicate plain j = one_settled w (between o x l u) predicate j
joining_settled w (is_null x) predicate plain o = one_settled w (is_null x) predicate o
joining_settled w (is_not_null x) predicate plain o = one_settled w (is_not_null x) predicate o
joining_settled w (like o x q) predicate plain j = one_settled w (like o x q) predicate j
joining_settled w (stat f x) predicate plain o = one_settled w (stat f x) predicate o
joining_settled w row_count predicate plain o = one_settled w row_count predicate o

grouped_truth : (b : Bool) → has_disjoint_ands (grouped (bool_literal b)) ≡ true
unfolding all_of
grouped_truth true = refl
grouped_truth false = refl

truth_apart : (e : Tree Place) → (b : Bool) × (e ≡ bool_literal b) → has_disjoint_ands (grouped e) ≡ true
truth_apart e b = subst (λ x. has_disjoint_ands (grouped x) ≡ true) (sym b.1) (grouped_truth b.0)

settled_apart : (e : Tree Place) → IsSettled e → has_disjoint_ands (grouped e) ≡ true
settled_apart e (inl b) = truth_apart e b
settled_apart e (inr k) = items_apart true (collected true e []) (k.1 true)

pub joinings_are_apart : JoiningsAreApart
joinings_are_apart p predicate plain j = settled_apart (pushed true p) (joining_settled true p predicate (no_placeholder p plain) j)

pub one_column_is_apart : OneColumnIsApart
one_column_is_apart c p predicate over seen s = settled_apart (pushed true p) (chain_decided c p predicate over seen s)
