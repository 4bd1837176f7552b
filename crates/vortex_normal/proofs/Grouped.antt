-- What is said of one column, in one place, is satisfied by the same rows.
use Rattle.std.proofs.Common.{◌≡◌, ℕ, Bool, true, false, not as not_b, ◌&&◌, ◌||◌, List, [], ◌∷◌, ◌++◌, Option, Some, None, map, refl, sym, ap, ap₂, ◌∙◌, if◌then◌else◌}
use Rattle.std.specs.List.{AllByRecursion}
use Rattle.std.specs.Prelude.{slice_get, is_none}
use Rattle.vortex_base.specs.Data.Columns.{cell_value}
use Rattle.vortex_base.specs.Data.Scalars.{Constant}
use Rattle.vortex_base.specs.Data.Values.{value_cmp}
use Rattle.vortex_expr.specs.Meanings.Meaning.{both, compared, holds, is_true, meaning, satisfies, truth_value}
use Rattle.vortex_expr.specs.Trees.Tree.{Tree, Place, column, literal, binary, is_null, is_not_null}
use Rattle.vortex_expr.specs.declared.scalar_fn.StrictComparison.TheVariants.{NonStrict}
use Rattle.vortex_rewrite.specs.Rewriting.Falsifiers.{bool_literal}
use Rattle.vortex_expr.specs.Trees.TreeEq.{place_eq, tree_eq_is_exact}
use Rattle.vortex_base.specs.declared.scalar_value.ScalarValue.{ScalarValue}
use Rattle.vortex_expr.specs.declared.scalar_fn.Operator.{Operator}
use Rattle.vortex_expr.specs.declared.scalar_fn.Operator.TheVariants.{Eq, NotEq, Gt, Gte, Lt, Lte, And, Or}
use Rattle.std.proofs.lemmas.Bool.{and_parts}
use Rattle.vortex_rewrite.proofs.Completeness.Decided.{comparison_applied}
use Rattle.vortex_rewrite.proofs.Completeness.Interval.{is_comparison}
use Rattle.vortex_rewrite.proofs.Soundness.TruthLogic.{true_and, true_or}
use Rattle.vortex_rewrite.proofs.Soundness.ValueTests.{holds_by_le, le_trans}
use Rattle.vortex_normal.specs.Intervals.{Cut, Lowest, Before, After, Highest, Interval, above, all_but, at_most, between_cuts, cuts_all, hole_by, interval_test, is_full, literal_as, range_of, values_test, combined, comparison_set, contains, in_set, interval, set_test, swapped}
use Rattle.vortex_normal.specs.Balanced.{balanced}
use Rattle.vortex_normal.specs.Groups.{Item, inside, other, add, add_sets, as_one, binary_item, both_nulls, collected, compared_item, grouped, is_of, item_test, items_test, leaf_item, lone_item, not_null_item, null_item, widened}
use Rattle.vortex_normal.proofs.Pairs.{balanced_value, values_joined}
use Rattle.vortex_normal.proofs.Told.{connected_told, joined}
use Rattle.vortex_normal.proofs.Sets.{holds_swapped, in_combined, in_comparison, in_sets}

-- ---- AND and OR of many

joined_assoc : (w a b c : Bool) → joined w (joined w a b) c ≡ joined w a (joined w b c)
joined_assoc true true b c = refl
joined_assoc true false b c = refl
joined_assoc false true b c = refl
joined_assoc false false b c = refl

joined_swap : (w a b c : Bool) → joined w b (joined w a c) ≡ joined w a (joined w b c)
joined_swap true true true c = refl
joined_swap true true false c = refl
joined_swap true false true c = refl
joined_swap true false false c = refl
joined_swap false true true c = refl
joined_swap false true false c = refl
joined_swap false false true c = refl
joined_swap false false false c = refl

pub joined_unit : (w a : Bool) → joined w a w ≡ a
joined_unit true true = refl
joined_unit true false = refl
joined_unit false true = refl
joined_unit false false = refl

-- ---- an optional value in a set: null is in none

abbrev pub is_in : List Interval → Option ScalarValue → Bool
is_in is None = false
is_in is (Some v) = in_set is v

-- an optional value in a set, or null where that counts
abbrev pub is_among : (with_null : Bool) → List Interval → Option ScalarValue → Bool
is_among n is None = n
is_among n is (Some v) = in_set is v

among_values : (is : List Interval) (v : Option ScalarValue) → is_among false is v ≡ is_in is v
among_values is None = refl
among_values is (Some v) = refl

nulls_joined : (w m n : Bool) → both_nulls w m n ≡ joined w m n
nulls_joined true m n = refl
nulls_joined false m n = refl

sets_joined : (w : Bool) (iss jss : List (List Interval)) (v : ScalarValue) → in_sets w (jss ++ iss) v ≡ joined w (in_sets w iss v) (in_sets w jss v)
sets_joined w iss [] v = sym (joined_unit w (in_sets w iss v))
sets_joined w iss (js ∷ jss) v = ap (joined w (in_set js v)) (sets_joined w iss jss v) ∙ joined_swap w (in_sets w iss v) (in_set js v) (in_sets w jss v)

among_combined : (w m n : Bool) (iss jss : List (List Interval)) (v : Option ScalarValue) → is_among (both_nulls w m n) (combined w (jss ++ iss)) v ≡ joined w (is_among m (combined w iss) v) (is_among n (combined w jss) v)
among_combined w m n iss jss None = nulls_joined w m n
among_combined w m n iss jss (Some v) =
    in_combined v w (jss ++ iss)
    ∙ sets_joined w iss jss v
    ∙ ap₂ (joined w) (sym (in_combined v w iss)) (sym (in_combined v w jss))

-- ---- an interval as a predicate of its column

or_no : (b : Bool) → b ≡ (b || false)
or_no true = refl
or_no false = refl

-- the comparisons by the test that a value is at most another
lt : (x y : ScalarValue) → holds Lt (value_cmp x y) ≡ not_b (at_most y x)
lt x y = holds_by_le Lt x y

lte : (x y : ScalarValue) → holds Lte (value_cmp x y) ≡ at_most x y
lte x y = holds_by_le Lte x y

gt : (x y : ScalarValue) → holds Gt (value_cmp x y) ≡ not_b (at_most x y)
gt x y = holds_by_le Gt x y

gte : (x y : ScalarValue) → holds Gte (value_cmp x y) ≡ at_most y x
gte x y = holds_by_le Gte x y

not_twice : (b : Bool) → b ≡ not_b (not_b b)
not_twice true = refl
not_twice false = refl

and_yes : (b : Bool) → b ≡ (b && true)
and_yes true = refl
and_yes false = refl

and_no : (b : Bool) → false ≡ (b && false)
and_no true = refl
and_no false = refl

known_both : (a b : Bool) → is_true (truth_value (both (Some a) (Some b))) ≡ (a && b)
known_both true b = refl
known_both false b = refl

same_truth : (a b : Bool) → (a ≡ true → b ≡ true) → (b ≡ true → a ≡ true) → a ≡ b
same_truth true b f g = sym (f refl)
same_truth false true f g = g refl
same_truth false false f g = refl

-- two values that are one are at least the same values
at_most_same : (x l u : ScalarValue) → at_most u l ≡ true → at_most l u ≡ true → at_most x l ≡ at_most x u
at_most_same x l u h k = same_truth (at_most x l) (at_most x u) (λ e. le_trans x l u e k) (λ e. le_trans x u l e h)

abbrev pub in_cuts : Cut → Cut → Option ScalarValue → Bool
in_cuts l u None = false
in_cuts l u (Some v) = above l v && not_b (above u v)

below_by : (u : ScalarValue) (v : Option ScalarValue) → is_true (truth_value (compared Lt v (Some u))) ≡ in_cuts Lowest (Before u) v
below_by u None = refl
below_by u (Some x) = lt x u

up_to_by : (u : ScalarValue) (v : Option ScalarValue) → is_true (truth_value (compared Lte v (Some u))) ≡ in_cuts Lowest (After u) v
up_to_by u None = refl
up_to_by u (Some x) = lte x u ∙ not_twice (at_most x u)

from_by : (l : ScalarValue) (v : Option ScalarValue) → is_true (truth_value (compared Gte v (Some l))) ≡ in_cuts (Before l) Highest v
from_by l None = refl
from_by l (Some x) = gte x l ∙ and_yes (at_most l x)

above_by : (l : ScalarValue) (v : Option ScalarValue) → is_true (truth_value (compared Gt v (Some l))) ≡ in_cuts (After l) Highest v
above_by l None = refl
above_by l (Some x) = gt x l ∙ and_yes (not_b (at_most x l))

-- a BETWEEN by its two comparisons, and these by cuts
range_by : (o p : Operator) (l u : ScalarValue) (low high : Cut) → ((x : ScalarValue) → holds o (value_cmp l x) ≡ above low x) → ((x : ScalarValue) → holds p (value_cmp x u) ≡ not_b (above high x))
    → (v : Option ScalarValue) → is_true (truth_value (both (compared o (Some l) v) (compared p v (Some u)))) ≡ in_cuts low high v
range_by o p l u low high f g None = refl
range_by o p l u low high f g (Some x) = known_both (holds o (value_cmp l x)) (holds p (value_cmp x u)) ∙ ap₂ ◌&&◌ (f x) (g x)

equal_cases : (a b : Bool) → (a && b) ≡ (b && not_b (not_b a))
equal_cases true true = refl
equal_cases true false = refl
equal_cases false true = refl
equal_cases false false = refl

-- an equality by the cuts round its value, the one named by another that is the same
equal_by : (l u : ScalarValue) → at_most u l ≡ true → at_most l u ≡ true → (v : Option ScalarValue) → is_true (truth_value (compared Eq v (Some l))) ≡ in_cuts (Before l) (After u) v
equal_by l u h k None = refl
equal_by l u h k (Some x) =
    holds_by_le Eq x l
    ∙ ap (λ b. b && at_most l x) (at_most_same x l u h k)
    ∙ equal_cases (at_most x u) (at_most l x)

unequal_cases : (a b : Bool) → not_b (a && b) ≡ ((true && not_b b) || (not_b a && true))
unequal_cases true true = refl
unequal_cases true false = refl
unequal_cases false true = refl
unequal_cases false false = refl

unequal_by : (u l : ScalarValue) → at_most u l ≡ true → at_most l u ≡ true → (v : Option ScalarValue) → is_true (truth_value (compared NotEq v (Some u))) ≡ (in_cuts Lowest (Before u) v || in_cuts (After l) Highest v)
unequal_by u l h k None = refl
unequal_by u l h k (Some x) =
    holds_by_le NotEq x u
    ∙ ap (λ b. not_b (b && at_most u x)) (at_most_same x u l k h)
    ∙ unequal_cases (at_most x l) (at_most u x)

null_by : (v : Option ScalarValue) → is_none v ≡ is_among true [] v
null_by None = refl
null_by (Some x) = refl

null_more : (is : List Interval) (v : Option ScalarValue) → (is_none v || is_in is v) ≡ is_among true is v
null_more is None = refl
null_more is (Some x) = refl

pub full_cuts : (a b : Cut) (x : ScalarValue) → cuts_all a b ≡ true → (above a x && not_b (above b x)) ≡ true
full_cuts Lowest Highest x h = refl
full_cuts a b x h = cc

full_in : (i : Interval) (is : List Interval) (v : Option ScalarValue) → is_full (i ∷ is) ≡ true → true ≡ is_among true (i ∷ is) v
full_in i is None h = refl
full_in i is (Some x) h = sym (ap (λ b. b || in_set is x) (full_cuts i.low i.high x h))

not_null_by : (v : Option ScalarValue) → not_b (is_none v) ≡ in_cuts Lowest Highest v
not_null_by None = refl
not_null_by (Some x) = refl

none_below : (l : Cut) (v : Option ScalarValue) → false ≡ in_cuts l Lowest v
none_below l None = refl
none_below l (Some x) = and_no (above l x)

none_above : (u : Cut) (v : Option ScalarValue) → false ≡ in_cuts Highest u v
none_above u None = refl
none_above u (Some x) = refl

none_in : (v : Option ScalarValue) → false ≡ is_in [] v
none_in None = refl
none_in (Some x) = refl

one_in : (i : Interval) (v : Option ScalarValue) → in_cuts i.low i.high v ≡ is_in (i ∷ []) v
one_in i None = refl
one_in i (Some x) = or_no (contains i x)

more_in : (i : Interval) (is : List Interval) (v : Option ScalarValue) → (in_cuts i.low i.high v || is_in is v) ≡ is_in (i ∷ is) v
more_in i is None = refl
more_in i is (Some x) = refl

compared_in : (o : Operator) (v : ScalarValue) (a : Option ScalarValue) → is_comparison o ≡ true → is_in (comparison_set o v) a ≡ is_true (truth_value (compared o a (Some v)))
compared_in o v None c = refl
compared_in o v (Some x) c = in_comparison o x v c

all_in : (v : Option ScalarValue) → is_in (interval Lowest Highest ∷ []) v ≡ not_b (is_none v)
all_in None = refl
all_in (Some x) = refl

-- operands swapped
pub compared_swapped : (o : Operator) (a b : Option ScalarValue) → is_true (truth_value (compared o a b)) ≡ is_true (truth_value (compared (swapped o) b a))
compared_swapped o None None = refl
compared_swapped o None (Some y) = refl
compared_swapped o (Some x) None = refl
compared_swapped o (Some x) (Some y) = sym (holds_swapped o y x)

still : (o : Operator) → is_comparison o ≡ true → is_comparison (swapped o) ≡ true
still Eq c = refl
still NotEq c = refl
still Gt c = refl
still Gte c = refl
still Lt c = refl
still Lte c = refl
still And c = cc
still Or c = cc

module _ (row : List Constant) (n : ℕ) where
  abbrev cell : Place → Option ScalarValue
  cell c = cell_value (slice_get row c.index)

  closed_if : (c : Place) (l u : ScalarValue) (b : Bool) → (at_most u l && at_most l u) ≡ b
      → satisfies (if b then binary Eq (column c) (literal_as c l) else range_of c (record { lower_strict = NonStrict; upper_strict = NonStrict }) l u) row n ≡ in_cuts (Before l) (After u) (cell c)
  closed_if c l u true e = let k = and_parts (at_most u l) (at_most l u) e in equal_by l u k.0 k.1 (cell c)
  closed_if c l u false e = range_by Lte Lte l u (Before l) (After u) (λ x. lte l x) (λ x. lte x u ∙ not_twice (at_most x u)) (cell c)

  cuts_told : (c : Place) (l u : Cut) → satisfies (between_cuts c l u) row n ≡ in_cuts l u (cell c)
  cuts_told c Lowest Highest = not_null_by (cell c)
  cuts_told c Lowest (Before u) = below_by u (cell c)
  cuts_told c Lowest (After u) = up_to_by u (cell c)
  cuts_told c (Before l) Highest = from_by l (cell c)
  cuts_told c (After l) Highest = above_by l (cell c)
  cuts_told c (Before l) (Before u) = range_by Lte Lt l u (Before l) (Before u) (λ x. lte l x) (λ x. lt x u) (cell c)
  cuts_told c (Before l) (After u) = closed_if c l u (at_most u l && at_most l u) refl
  cuts_told c (After l) (Before u) = range_by Lt Lt l u (After l) (Before u) (λ x. lt l x) (λ x. lt x u) (cell c)
  cuts_told c (After l) (After u) = range_by Lt Lte l u (After l) (After u) (λ x. lt l x) (λ x. lte x u ∙ not_twice (at_most x u)) (cell c)
  cuts_told c Lowest Lowest = none_below Lowest (cell c)
  cuts_told c (Before l) Lowest = none_below (Before l) (cell c)
  cuts_told c (After l) Lowest = none_below (After l) (cell c)
  cuts_told c Highest Lowest = none_above Lowest (cell c)
  cuts_told c Highest (Before u) = none_above (Before u) (cell c)
  cuts_told c Highest (After u) = none_above (After u) (cell c)
  cuts_told c Highest Highest = none_above Highest (cell c)

  either_told : (c : Place) (a b d e : Cut) → satisfies (binary Or (between_cuts c a b) (between_cuts c d e)) row n ≡ (in_cuts a b (cell c) || in_cuts d e (cell c))
  either_told c a b d e = true_or (meaning (between_cuts c a b) row n) (meaning (between_cuts c d e) row n) ∙ ap₂ ◌||◌ (cuts_told c a b) (cuts_told c d e)

  hole_if : (c : Place) (u l : ScalarValue) (b : Bool) → (at_most u l && at_most l u) ≡ b
      → satisfies (all_but c (if b then Some u else None) (binary Or (between_cuts c Lowest (Before u)) (between_cuts c (After l) Highest))) row n
      ≡ (in_cuts Lowest (Before u) (cell c) || in_cuts (After l) Highest (cell c))
  hole_if c u l true e = let k = and_parts (at_most u l) (at_most l u) e in unequal_by u l k.0 k.1 (cell c)
  hole_if c u l false e = either_told c Lowest (Before u) (After l) Highest

  hole_told : (c : Place) (a b d e : Cut) → satisfies (all_but c (hole_by a b d e) (binary Or (between_cuts c a b) (between_cuts c d e))) row n ≡ (in_cuts a b (cell c) || in_cuts d e (cell c))
  hole_told c Lowest (Before u) (After l) Highest = hole_if c u l (at_most u l && at_most l u) refl
  hole_told c a b d e = either_told c a b d e

  -- what predicates say one after another, they say joined two by two
  abbrev joined_values : (is_and : Bool) → List (Tree Place) → Bool
  joined_values w es = values_joined (λ e. satisfies e row n) (joined w) w es

  all_tests : (es : List (Tree Place)) → AllByRecursion (λ _. Unit {0}) es
  all_tests [] = tt
  all_tests (e ∷ es) = (tt, all_tests es)

  literal_told : (w : Bool) → satisfies (bool_literal w) row n ≡ w
  literal_told true = refl
  literal_told false = refl

  balanced_told : (w : Bool) (es : List (Tree Place)) → satisfies (balanced w es) row n ≡ joined_values w es
  balanced_told w es =
      balanced_value (λ _. Unit {0}) w (λ a b h k. tt) (λ e. satisfies e row n) (joined w) w (joined_assoc w) (joined_unit w)
      (λ a b h k. connected_told row n w a b) es (literal_told w) (all_tests es)

  intervals_told : (c : Place) (is : List Interval) → joined_values false (map (interval_test c) is) ≡ is_in is (cell c)
  intervals_told c [] = none_in (cell c)
  intervals_told c (i ∷ is) = ap₂ ◌||◌ (cuts_told c i.low i.high) (intervals_told c is) ∙ more_in i is (cell c)

  pub set_told : (c : Place) (is : List Interval) → satisfies (set_test c is) row n ≡ is_in is (cell c)
  set_told c [] = none_in (cell c)
  set_told c (i ∷ []) = cuts_told c i.low i.high ∙ one_in i (cell c)
  set_told c (i ∷ j ∷ []) =
      hole_told c i.low i.high j.low j.high
      ∙ ap (λ b. in_cuts i.low i.high (cell c) || b) (one_in j (cell c))
      ∙ more_in i (j ∷ []) (cell c)
  set_told c (i ∷ j ∷ k ∷ is) =
      balanced_told false (map (interval_test c) (i ∷ j ∷ k ∷ is))
      ∙ intervals_told c (i ∷ j ∷ k ∷ is)

  null_if : (c : Place) (i : Interval) (is : List Interval) (b : Bool) → is_full (i ∷ is) ≡ b
      → satisfies (if b then bool_literal true else binary Or (is_null (column c)) (set_test c (i ∷ is))) row n ≡ is_among true (i ∷ is) (cell c)
  null_if c i is true e = full_in i is (cell c) e
  null_if c i is false e =
      true_or (meaning (is_null (column c)) row n) (meaning (set_test c (i ∷ is)) row n)
      ∙ ap (λ b. is_none (cell c) || b) (set_told c (i ∷ is))
      ∙ null_more (i ∷ is) (cell c)

  values_told : (c : Place) (m : Bool) (is : List Interval) → satisfies (values_test c m is) row n ≡ is_among m is (cell c)
  values_told c false is = set_told c is ∙ sym (among_values is (cell c))
  values_told c true [] = null_by (cell c)
  values_told c true (i ∷ is) = null_if c i is (is_full (i ∷ is)) refl

  -- ---- items

  abbrev pub told : (is_and : Bool) → Item → Bool
  told w (inside c m iss) = is_among m (combined w iss) (cell c)
  told w (other e) = satisfies e row n

  abbrev pub all_told : (is_and : Bool) → List Item → Bool
  all_told w [] = w
  all_told w (i ∷ is) = joined w (told w i) (all_told w is)

  item_told : (w : Bool) (i : Item) → satisfies (item_test w i) row n ≡ told w i
  item_told w (inside c m iss) = values_told c m (combined w iss)
  item_told w (other e) = refl

  tests_told : (w : Bool) (is : List Item) → joined_values w (map (item_test w) is) ≡ all_told w is
  tests_told w [] = refl
  tests_told w (i ∷ is) = ap₂ (joined w) (item_told w i) (tests_told w is)

  items_told : (w : Bool) (is : List Item) → satisfies (items_test w is) row n ≡ all_told w is
  items_told w is =
      connected_told row n w (balanced w (map (item_test w) is)) (bool_literal w)
      ∙ ap₂ (joined w) (balanced_told w (map (item_test w) is) ∙ tests_told w is) (literal_told w)
      ∙ joined_unit w (all_told w is)

  -- ---- leaves

  values_in : (w : Bool) (c : Place) (is : List Interval) (b : Bool) → is_in is (cell c) ≡ b → told w (inside c false (is ∷ [])) ≡ b
  values_in w c is b e = among_values is (cell c) ∙ e

  compared_told : (w : Bool) (o : Operator) (c : Place) (v : Option ScalarValue) (e : Tree Place) → (is_comparison o ≡ true → satisfies e row n ≡ is_true (truth_value (compared o (cell c) v))) → told w (compared_item o c v e) ≡ satisfies e row n
  compared_told w And c v e f = refl
  compared_told w Or c v e f = refl
  compared_told w Eq c (Some v) e f = values_in w c (comparison_set Eq v) (satisfies e row n) (compared_in Eq v (cell c) refl ∙ sym (f refl))
  compared_told w NotEq c (Some v) e f = values_in w c (comparison_set NotEq v) (satisfies e row n) (compared_in NotEq v (cell c) refl ∙ sym (f refl))
  compared_told w Gt c (Some v) e f = values_in w c (comparison_set Gt v) (satisfies e row n) (compared_in Gt v (cell c) refl ∙ sym (f refl))
  compared_told w Gte c (Some v) e f = values_in w c (comparison_set Gte v) (satisfies e row n) (compared_in Gte v (cell c) refl ∙ sym (f refl))
  compared_told w Lt c (Some v) e f = values_in w c (comparison_set Lt v) (satisfies e row n) (compared_in Lt v (cell c) refl ∙ sym (f refl))
  compared_told w Lte c (Some v) e f = values_in w c (comparison_set Lte v) (satisfies e row n) (compared_in Lte v (cell c) refl ∙ sym (f refl))
  compared_told w Eq c None e f = refl
  compared_told w NotEq c None e f = refl
  compared_told w Gt c None e f = refl
  compared_told w Gte c None e f = refl
  compared_told w Lt c None e f = refl
  compared_told w Lte c None e f = refl

  plain_compared : (o : Operator) (l r : Tree Place) → is_comparison o ≡ true → satisfies (binary o l r) row n ≡ is_true (truth_value (compared o (meaning l row n) (meaning r row n)))
  plain_compared o l r c = ap (λ t. is_true (truth_value t)) (comparison_applied o (meaning l row n) (meaning r row n) c)

  comparison_of_swapped : (o : Operator) → is_comparison (swapped o) ≡ true → is_comparison o ≡ true
  comparison_of_swapped Eq c = refl
  comparison_of_swapped NotEq c = refl
  comparison_of_swapped Gt c = refl
  comparison_of_swapped Gte c = refl
  comparison_of_swapped Lt c = refl
  comparison_of_swapped Lte c = refl
  comparison_of_swapped And c = cc
  comparison_of_swapped Or c = cc

  binary_told : (w : Bool) (o : Operator) (l r : Tree Place) → told w (binary_item o l r (binary o l r)) ≡ satisfies (binary o l r) row n
  binary_told w o (column c) (literal d) = compared_told w o c d.value (binary o (column c) (literal d)) (plain_compared o (column c) (literal d))
  binary_told w o (literal d) (column c) =
      compared_told w (swapped o) c d.value (binary o (literal d) (column c))
      (λ k. plain_compared o (literal d) (column c) (comparison_of_swapped o k) ∙ compared_swapped o d.value (cell c))
  binary_told w o l r = refl

  null_told : (w : Bool) (x : Tree Place) → told w (null_item x (is_null x)) ≡ satisfies (is_null x) row n
  null_told w (column c) = sym (null_by (cell c))
  null_told w x = refl

  not_null_told : (w : Bool) (x : Tree Place) → told w (not_null_item x (is_not_null x)) ≡ satisfies (is_not_null x) row n
  not_null_told w (column c) = values_in w c (interval Lowest Highest ∷ []) (not_b (is_none (cell c))) (all_in (cell c))
  not_null_told w x = refl

  leaf_told : (w : Bool) (e : Tree Place) → told w (leaf_item e) ≡ satisfies e row n
  leaf_told w (binary o l r) = binary_told w o l r
  leaf_told w (is_null x) = null_told w x
  leaf_told w (is_not_null x) = not_null_told w x
  leaf_told w e = refl

  -- ---- chains

  same_cell : (c d : Place) → place_eq c d ≡ true → cell c ≡ cell d
  same_cell c d h = ap (λ e. meaning e row n) ((tree_eq_is_exact (column c) (column d)).0 h)

  widened_told : (w : Bool) (c : Place) (m : Bool) (iss : List (List Interval)) (j : Item) → is_of c j ≡ true → told w (widened w m iss j) ≡ joined w (told w (inside c m iss)) (told w j)
  widened_told w c m iss (inside d k jss) h =
      among_combined w m k iss jss (cell d)
      ∙ sym (ap (λ v. joined w (is_among m (combined w iss) v) (is_among k (combined w jss) (cell d))) (same_cell c d h))
  widened_told w c m iss (other e) h = cc

  add_if : (w : Bool) (c : Place) (m : Bool) (iss : List (List Interval)) (j : Item) (js : List Item) (b : Bool) → is_of c j ≡ b
      → all_told w (add_sets w c m iss js) ≡ joined w (told w (inside c m iss)) (all_told w js)
      → all_told w (if b then widened w m iss j ∷ js else j ∷ add_sets w c m iss js) ≡ joined w (told w (inside c m iss)) (joined w (told w j) (all_told w js))
  add_if w c m iss j js true e h = ap (λ b. joined w b (all_told w js)) (widened_told w c m iss j e) ∙ joined_assoc w (told w (inside c m iss)) (told w j) (all_told w js)
  add_if w c m iss j js false e h = ap (joined w (told w j)) h ∙ joined_swap w (told w (inside c m iss)) (told w j) (all_told w js)

  add_sets_told : (w : Bool) (c : Place) (m : Bool) (iss : List (List Interval)) (js : List Item) → all_told w (add_sets w c m iss js) ≡ joined w (told w (inside c m iss)) (all_told w js)
  add_sets_told w c m iss [] = refl
  add_sets_told w c m iss (j ∷ js) = add_if w c m iss j js (is_of c j) refl (add_sets_told w c m iss js)

  last_told : (w : Bool) (i : Item) (js : List Item) → all_told w (js ++ i ∷ []) ≡ joined w (told w i) (all_told w js)
  last_told w i [] = refl
  last_told w i (j ∷ js) = ap (joined w (told w j)) (last_told w i js) ∙ joined_swap w (told w i) (told w j) (all_told w js)

  add_told : (w : Bool) (i : Item) (js : List Item) → all_told w (add w i js) ≡ joined w (told w i) (all_told w js)
  add_told w (inside c m iss) js = add_sets_told w c m iss js
  add_told w (other e) js = last_told w (other e) js

  alone_told : (v w : Bool) (i : Item) → told v (lone_item w i) ≡ told w i
  alone_told v w (inside c m iss) = refl
  alone_told v w (other e) = refl

  -- one item is told the same in any chain
  as_one_told : (v w : Bool) (is : List Item) → told v (as_one w is) ≡ all_told w is
  as_one_told v w [] = items_told w []
  as_one_told v w (i ∷ []) = alone_told v w i ∙ sym (joined_unit w (told w i))
  as_one_told v w (i ∷ j ∷ is) = items_told w (i ∷ j ∷ is)

  -- the items of two sides, one after the other
  sides_told : (w a b : Bool) (is js ks : List Item) → all_told w js ≡ joined w a (all_told w is) → all_told w ks ≡ joined w b (all_told w js) → all_told w ks ≡ joined w (joined w a b) (all_told w is)
  sides_told w a b is js ks h k = k ∙ ap (joined w b) h ∙ joined_swap w a b (all_told w is) ∙ sym (joined_assoc w a b (all_told w is))

  -- the items of two sides as one item of another chain
  inner_told : (w v a b : Bool) (is js ks : List Item) → all_told v js ≡ joined v a v → all_told v ks ≡ joined v b (all_told v js) → all_told w (add w (as_one v ks) is) ≡ joined w (joined v a b) (all_told w is)
  inner_told w v a b is js ks h k =
      add_told w (as_one v ks) is
      ∙ ap (λ c. joined w c (all_told w is)) (as_one_told w v ks ∙ sides_told v a b [] js ks h k ∙ joined_unit v (joined v a b))

  both_sides : (l r : Tree Place) → (satisfies l row n && satisfies r row n) ≡ satisfies (binary And l r) row n
  both_sides l r = sym (true_and (meaning l row n) (meaning r row n))

  either_side : (l r : Tree Place) → (satisfies l row n || satisfies r row n) ≡ satisfies (binary Or l r) row n
  either_side l r = sym (true_or (meaning l row n) (meaning r row n))

  lone_told : (w : Bool) (e : Tree Place) (is : List Item) → all_told w (add w (leaf_item e) is) ≡ joined w (satisfies e row n) (all_told w is)
  lone_told w e is = add_told w (leaf_item e) is ∙ ap (λ b. joined w b (all_told w is)) (leaf_told w e)

  pub collected_told : (w : Bool) (e : Tree Place) (is : List Item) → all_told w (collected w e is) ≡ joined w (satisfies e row n) (all_told w is)
  collected_told true (binary And l r) is =
      sides_told true (satisfies l row n) (satisfies r row n) is (collected true l is) (collected true r (collected true l is)) (collected_told true l is) (collected_told true r (collected true l is))
      ∙ ap (λ b. joined true b (all_told true is)) (both_sides l r)
  collected_told false (binary And l r) is =
      inner_told false true (satisfies l row n) (satisfies r row n) is (collected true l []) (collected true r (collected true l [])) (collected_told true l []) (collected_told true r (collected true l []))
      ∙ ap (λ b. joined false b (all_told false is)) (both_sides l r)
  collected_told true (binary Or l r) is =
      inner_told true false (satisfies l row n) (satisfies r row n) is (collected false l []) (collected false r (collected false l [])) (collected_told false l []) (collected_told false r (collected false l []))
      ∙ ap (λ b. joined true b (all_told true is)) (either_side l r)
  collected_told false (binary Or l r) is =
      sides_told false (satisfies l row n) (satisfies r row n) is (collected false l is) (collected false r (collected false l is)) (collected_told false l is) (collected_told false r (collected false l is))
      ∙ ap (λ b. joined false b (all_told false is)) (either_side l r)
  collected_told w (binary Eq l r) is = lone_told w (binary Eq l r) is
  collected_told w (binary NotEq l r) is = lone_told w (binary NotEq l r) is
  collected_told w (binary Gt l r) is = lone_told w (binary Gt l r) is
  collected_told w (binary Gte l r) is = lone_told w (binary Gte l r) is
  collected_told w (binary Lt l r) is = lone_told w (binary Lt l r) is
  collected_told w (binary Lte l r) is = lone_told w (binary Lte l r) is
  collected_told w e is = lone_told w e is

  -- what is said of one column in one place, the same rows satisfy
  pub grouped_told : (e : Tree Place) → satisfies (grouped e) row n ≡ satisfies e row n
  grouped_told e = items_told true (collected true e []) ∙ collected_told true e [] ∙ joined_unit true (satisfies e row n)
