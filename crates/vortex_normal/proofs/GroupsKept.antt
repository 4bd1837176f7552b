-- A predicate's groups have no column and no placeholder that it had not.
use Rattle.std.proofs.Common.{◌≡◌, Bool, true, false, not as not_b, ◌&&◌, ◌||◌, List, [], ◌∷◌, ◌++◌, Option, Some, None, IsTrue, ap, map, if◌then◌else◌}
use Rattle.std.specs.List.{AllByRecursion}
use Rattle.std.proofs.lemmas.Bool.{and_parts, or_parts, not-true}
use Rattle.vortex_base.specs.Data.Exact.{both_hold}
use Rattle.vortex_expr.specs.Trees.Tree.{Tree, Place, all_columns, column, literal, binary, between, is_null, is_not_null, like, not, some_node, has_placeholder, has_row_count, is_placeholder, is_plain, is_row_count}
use Rattle.vortex_base.specs.declared.scalar_value.ScalarValue.{ScalarValue}
use Rattle.vortex_expr.specs.declared.like.LikeOptions.{LikeOptions}
use Rattle.vortex_expr.specs.declared.scalar_fn.BetweenOptions.{BetweenOptions}
use Rattle.vortex_expr.specs.declared.scalar_fn.Operator.{Operator}
use Rattle.vortex_expr.specs.declared.scalar_fn.Operator.TheVariants.{Eq, NotEq, Gt, Gte, Lt, Lte, And, Or}
use Rattle.vortex_expr.specs.declared.scalar_fn.StrictComparison.TheVariants.{Strict, NonStrict}
use Rattle.vortex_normal.specs.Balanced.{balanced}
use Rattle.vortex_normal.specs.Groups.{Item, inside, other, add, add_sets, as_one, binary_item, collected, compared_item, grouped, is_of, item_test, items_test, leaf_item, lone_item, not_null_item, null_item, widened}
use Rattle.vortex_normal.specs.Intervals.{Cut, Lowest, Before, After, Highest, Interval, all_but, at_most, between_cuts, combined, hole_by, interval_test, is_full, literal_as, range_of, set_test, swapped, values_test}
use Rattle.vortex_rewrite.specs.Rewriting.Falsifiers.{bool_literal}
use Rattle.vortex_normal.specs.Pushed.{connected}
use Rattle.vortex_normal.proofs.Pairs.{balanced_has}
use Rattle.vortex_normal.proofs.Forms.{connected_kept}
use Rattle.vortex_normal.proofs.Kept.{Holds, IsInherited, IsOfLeaves, Lacks, columns_inherited, nodes_inherited, operands_lack, placeholders, row_counts}

-- a property that the children of a node have which has it
pub record IsPassedDown (P : Tree Place → Type 0) : Type 0 where
  pub of_sides : (o : Operator) (l r : Tree Place) → P (binary o l r) → P l × P r
  pub of_null_operand : (x : Tree Place) → P (is_null x) → P x
  pub of_operand : (x : Tree Place) → P (is_not_null x) → P x
  pub of_negated : (x : Tree Place) → P (not x) → P x
  pub of_ranged : (o : BetweenOptions) (x l u : Tree Place) → P (between o x l u) → P x × P l × P u
  pub of_text : (o : LikeOptions) (x p : Tree Place) → P (like o x p) → P x × P p

module _ (P : Tree Place → Type 0) (i : IsInherited P) (d : IsPassedDown P) where
  abbrev pub Has : Item → Type 0
  Has (inside c m is) = P (column c)
  Has (other e) = P e

  abbrev pub Have : List Item → Type 0
  Have [] = Unit {0}
  Have (x ∷ xs) = Has x × Have xs

  closed_if : (c : Place) → P (column c) → (l u : ScalarValue) (b : Bool) → P (if b then binary Eq (column c) (literal_as c l) else range_of c (record { lower_strict = NonStrict; upper_strict = NonStrict }) l u)
  closed_if c h l u true = i.of_binary Eq (column c) (literal_as c l) h (i.of_literal _)
  closed_if c h l u false = i.of_between (record { lower_strict = NonStrict; upper_strict = NonStrict }) (column c) (literal_as c l) (literal_as c u) h (i.of_literal _) (i.of_literal _)

  cuts_have : (c : Place) → P (column c) → (l u : Cut) → P (between_cuts c l u)
  cuts_have c h Lowest Highest = i.of_not_null (column c) h
  cuts_have c h Lowest (Before u) = i.of_binary Lt (column c) (literal_as c u) h (i.of_literal _)
  cuts_have c h Lowest (After u) = i.of_binary Lte (column c) (literal_as c u) h (i.of_literal _)
  cuts_have c h (Before l) Highest = i.of_binary Gte (column c) (literal_as c l) h (i.of_literal _)
  cuts_have c h (After l) Highest = i.of_binary Gt (column c) (literal_as c l) h (i.of_literal _)
  cuts_have c h (Before l) (Before u) = i.of_between (record { lower_strict = NonStrict; upper_strict = Strict }) (column c) (literal_as c l) (literal_as c u) h (i.of_literal _) (i.of_literal _)
  cuts_have c h (Before l) (After u) = closed_if c h l u (at_most u l && at_most l u)
  cuts_have c h (After l) (Before u) = i.of_between (record { lower_strict = Strict; upper_strict = Strict }) (column c) (literal_as c l) (literal_as c u) h (i.of_literal _) (i.of_literal _)
  cuts_have c h (After l) (After u) = i.of_between (record { lower_strict = Strict; upper_strict = NonStrict }) (column c) (literal_as c l) (literal_as c u) h (i.of_literal _) (i.of_literal _)
  cuts_have c h Lowest Lowest = i.of_literal _
  cuts_have c h (Before l) Lowest = i.of_literal _
  cuts_have c h (After l) Lowest = i.of_literal _
  cuts_have c h Highest Lowest = i.of_literal _
  cuts_have c h Highest (Before u) = i.of_literal _
  cuts_have c h Highest (After u) = i.of_literal _
  cuts_have c h Highest Highest = i.of_literal _

  hole_has : (c : Place) → P (column c) → (v : Option ScalarValue) (e : Tree Place) → P e → P (all_but c v e)
  hole_has c h (Some v) e k = i.of_binary NotEq (column c) (literal_as c v) h (i.of_literal _)
  hole_has c h None e k = k

  joined_has : (w : Bool) (l r : Tree Place) → P l → P r → P (connected w l r)
  joined_has w l r h k = connected_kept P l r h k w (i.of_binary And l r h k) (i.of_binary Or l r h k)

  intervals_have : (c : Place) → P (column c) → (is : List Interval) → AllByRecursion P (map (interval_test c) is)
  intervals_have c h [] = tt
  intervals_have c h (x ∷ xs) = (cuts_have c h x.low x.high, intervals_have c h xs)

  set_has : (c : Place) → P (column c) → (is : List Interval) → P (set_test c is)
  set_has c h [] = i.of_literal _
  set_has c h (x ∷ []) = cuts_have c h x.low x.high
  set_has c h (x ∷ y ∷ []) =
      hole_has c h (hole_by x.low x.high y.low y.high) (binary Or (between_cuts c x.low x.high) (between_cuts c y.low y.high))
      (i.of_binary Or (between_cuts c x.low x.high) (between_cuts c y.low y.high) (cuts_have c h x.low x.high) (cuts_have c h y.low y.high))
  set_has c h (x ∷ y ∷ z ∷ xs) = balanced_has P false (joined_has false) (map (interval_test c) (x ∷ y ∷ z ∷ xs)) (i.of_literal _) (intervals_have c h (x ∷ y ∷ z ∷ xs))

  null_if : (c : Place) → P (column c) → (is : List Interval) (b : Bool) → P (if b then bool_literal true else binary Or (is_null (column c)) (set_test c is))
  null_if c h is true = i.of_literal _
  null_if c h is false = i.of_binary Or (is_null (column c)) (set_test c is) (i.of_null (column c) h) (set_has c h is)

  values_have : (c : Place) → P (column c) → (m : Bool) (is : List Interval) → P (values_test c m is)
  values_have c h false is = set_has c h is
  values_have c h true [] = i.of_null (column c) h
  values_have c h true (x ∷ xs) = null_if c h (x ∷ xs) (is_full (x ∷ xs))

  pub item_has : (w : Bool) (x : Item) → Has x → P (item_test w x)
  item_has w (inside c m iss) h = values_have c h m (combined w iss)
  item_has w (other e) h = h

  tests_have : (w : Bool) (xs : List Item) → Have xs → AllByRecursion P (map (item_test w) xs)
  tests_have w [] h = tt
  tests_have w (x ∷ xs) h = (item_has w x h.0, tests_have w xs h.1)

  pub items_have : (w : Bool) (xs : List Item) → Have xs → P (items_test w xs)
  items_have w xs h =
      joined_has w (balanced w (map (item_test w) xs)) (bool_literal w)
      (balanced_has P w (joined_has w) (map (item_test w) xs) (i.of_literal _) (tests_have w xs h))
      (i.of_literal _)

  compared_has : (o : Operator) (c : Place) (v : Option ScalarValue) (e : Tree Place) → P (column c) → P e → Has (compared_item o c v e)
  compared_has And c v e h k = k
  compared_has Or c v e h k = k
  compared_has Eq c (Some v) e h k = h
  compared_has NotEq c (Some v) e h k = h
  compared_has Gt c (Some v) e h k = h
  compared_has Gte c (Some v) e h k = h
  compared_has Lt c (Some v) e h k = h
  compared_has Lte c (Some v) e h k = h
  compared_has Eq c None e h k = k
  compared_has NotEq c None e h k = k
  compared_has Gt c None e h k = k
  compared_has Gte c None e h k = k
  compared_has Lt c None e h k = k
  compared_has Lte c None e h k = k

  binary_has : (o : Operator) (l r : Tree Place) → P (binary o l r) → Has (binary_item o l r (binary o l r))
  binary_has o (column c) (literal v) h = compared_has o c v.value (binary o (column c) (literal v)) (d.of_sides o (column c) (literal v) h).0 h
  binary_has o (literal v) (column c) h = compared_has (swapped o) c v.value (binary o (literal v) (column c)) (d.of_sides o (literal v) (column c) h).1 h
  binary_has o l r h = h

  null_has : (x : Tree Place) → P (is_null x) → Has (null_item x (is_null x))
  null_has (column c) h = d.of_null_operand (column c) h
  null_has x h = h

  not_null_has : (x : Tree Place) → P (is_not_null x) → Has (not_null_item x (is_not_null x))
  not_null_has (column c) h = d.of_operand (column c) h
  not_null_has x h = h

  pub leaf_has : (e : Tree Place) → P e → Has (leaf_item e)
  leaf_has (binary o l r) h = binary_has o l r h
  leaf_has (is_null x) h = null_has x h
  leaf_has (is_not_null x) h = not_null_has x h
  leaf_has e h = h

  widened_has : (w m : Bool) (iss : List (List Interval)) (x : Item) → Has x → Has (widened w m iss x)
  widened_has w m iss (inside c k jss) h = h
  widened_has w m iss (other e) h = h

  add_if : (w : Bool) (c : Place) (m : Bool) (iss : List (List Interval)) (y : Item) (ys : List Item) (b : Bool) → Has y → Have ys → Have (add_sets w c m iss ys)
      → Have (if b then widened w m iss y ∷ ys else y ∷ add_sets w c m iss ys)
  add_if w c m iss y ys true h k r = (widened_has w m iss y h, k)
  add_if w c m iss y ys false h k r = (h, r)

  add_sets_has : (w : Bool) (c : Place) (m : Bool) (iss : List (List Interval)) (ys : List Item) → P (column c) → Have ys → Have (add_sets w c m iss ys)
  add_sets_has w c m iss [] h k = (h, tt)
  add_sets_has w c m iss (y ∷ ys) h k = add_if w c m iss y ys (is_of c y) k.0 k.1 (add_sets_has w c m iss ys h k.1)

  last_has : (x : Item) (ys : List Item) → Has x → Have ys → Have (ys ++ x ∷ [])
  last_has x [] h k = (h, tt)
  last_has x (y ∷ ys) h k = (k.0, last_has x ys h k.1)

  add_has : (w : Bool) (x : Item) (ys : List Item) → Has x → Have ys → Have (add w x ys)
  add_has w (inside c m iss) ys h k = add_sets_has w c m iss ys h k
  add_has w (other e) ys h k = last_has (other e) ys h k

  alone_has : (w : Bool) (x : Item) → Has x → Has (lone_item w x)
  alone_has w (inside c m iss) h = h
  alone_has w (other e) h = h

  pub as_one_has : (v : Bool) (xs : List Item) → Have xs → Has (as_one v xs)
  as_one_has v [] h = items_have v [] h
  as_one_has v (x ∷ []) h = alone_has v x h.0
  as_one_has v (x ∷ y ∷ xs) h = items_have v (x ∷ y ∷ xs) h

  lone_has : (w : Bool) (e : Tree Place) (xs : List Item) → P e → Have xs → Have (add w (leaf_item e) xs)
  lone_has w e xs h k = add_has w (leaf_item e) xs (leaf_has e h) k

  pub collected_have : (w : Bool) (e : Tree Place) (xs : List Item) → P e → Have xs → Have (collected w e xs)
  collected_have true (binary And l r) xs h k =
      let p = d.of_sides And l r h in
      collected_have true r (collected true l xs) p.1 (collected_have true l xs p.0 k)
  collected_have false (binary And l r) xs h k =
      let p = d.of_sides And l r h in
      let inner = collected true r (collected true l []) in
      add_has false (as_one true inner) xs (as_one_has true inner (collected_have true r (collected true l []) p.1 (collected_have true l [] p.0 tt))) k
  collected_have true (binary Or l r) xs h k =
      let p = d.of_sides Or l r h in
      let inner = collected false r (collected false l []) in
      add_has true (as_one false inner) xs (as_one_has false inner (collected_have false r (collected false l []) p.1 (collected_have false l [] p.0 tt))) k
  collected_have false (binary Or l r) xs h k =
      let p = d.of_sides Or l r h in
      collected_have false r (collected false l xs) p.1 (collected_have false l xs p.0 k)
  collected_have w (binary Eq l r) xs h k = lone_has w (binary Eq l r) xs h k
  collected_have w (binary NotEq l r) xs h k = lone_has w (binary NotEq l r) xs h k
  collected_have w (binary Gt l r) xs h k = lone_has w (binary Gt l r) xs h k
  collected_have w (binary Gte l r) xs h k = lone_has w (binary Gte l r) xs h k
  collected_have w (binary Lt l r) xs h k = lone_has w (binary Lt l r) xs h k
  collected_have w (binary Lte l r) xs h k = lone_has w (binary Lte l r) xs h k
  collected_have w e xs h k = lone_has w e xs h k

  pub grouped_has : (e : Tree Place) → P e → P (grouped e)
  grouped_has e h = items_have true (collected true e []) (collected_have true e [] h tt)

pub columns_down : (test : Place → Bool) → IsPassedDown (Holds test)
columns_down test = record { of_sides = λ o l r h. and_parts (all_columns test l) (all_columns test r) h; of_null_operand = λ x h. h; of_operand = λ x h. h; of_negated = λ x h. h; of_ranged = λ o x l u h. let k = and_parts (all_columns test x) (all_columns test l && all_columns test u) h in let j = and_parts (all_columns test l) (all_columns test u) k.1 in (k.0, j.0, j.1); of_text = λ o x p h. and_parts (all_columns test x) (all_columns test p) h }

pub nodes_down : (test : Tree Place → Bool) (t : IsOfLeaves test) → IsPassedDown (Lacks test t)
nodes_down test t = record { of_sides = λ o l r h. operands_lack test t o l r h; of_null_operand = λ x h. (or_parts (test (is_null x)) (some_node test x) h).1; of_operand = λ x h. (or_parts (test (is_not_null x)) (some_node test x) h).1; of_negated = λ x h. (or_parts (test (not x)) (some_node test x) h).1; of_ranged = λ o x l u h. let k = or_parts (some_node test x) (some_node test l || some_node test u) (or_parts (test (between o x l u)) (some_node test x || (some_node test l || some_node test u)) h).1 in let j = or_parts (some_node test l) (some_node test u) k.1 in (k.0, j.0, j.1); of_text = λ o x p h. or_parts (some_node test x) (some_node test p) (or_parts (test (like o x p)) (some_node test x || some_node test p) h).1 }

pub grouped_columns : (test : Place → Bool) (e : Tree Place) → all_columns test e ≡ true → all_columns test (grouped e) ≡ true
grouped_columns test e h = grouped_has (Holds test) (columns_inherited test) (columns_down test) e h

grouped_nodes : (test : Tree Place → Bool) (t : IsOfLeaves test) (e : Tree Place) → some_node test e ≡ false → some_node test (grouped e) ≡ false
grouped_nodes test t e h = grouped_has (Lacks test t) (nodes_inherited test t) (nodes_down test t) e h

pub grouped_plain : (e : Tree Place) → IsTrue (is_plain e) → IsTrue (is_plain (grouped e))
grouped_plain e h =
    let k = and_parts (not_b (has_placeholder e)) (not_b (has_row_count e)) h in
    both_hold _ _
    (ap not_b (grouped_nodes is_placeholder placeholders e (not-true (has_placeholder e) k.0)))
    (ap not_b (grouped_nodes is_row_count row_counts e (not-true (has_row_count e) k.1)))
