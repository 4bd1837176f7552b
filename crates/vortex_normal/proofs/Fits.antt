-- The items of a predicate fit: the values in their sets are of their columns' types, and what they make up is a predicate.
use Rattle.std.proofs.Common.{◌≡◌, Bool, true, false, ◌&&◌, List, [], ◌∷◌, ◌++◌, Option, Some, None, Result, Ok, Err, IsOk, map, refl, sym, ap, ◌∙◌, if◌then◌else◌}
use Rattle.std.proofs.Common.{ℕ, zero, suc, ◌<◌, length, get_or, arith}
use Rattle.std.specs.List.{AllByRecursion, flat_map}
use Rattle.std.proofs.lemmas.Bool.{and_parts}
use Rattle.std.proofs.lemmas.Option.{none-some, same_Some}
use Rattle.vortex_expr.proofs.Meanings.MeaningFits.{is_value-as_nullable}
use Rattle.vortex_base.specs.Data.Exact.{both_hold}
use Rattle.vortex_base.specs.Data.Scalars.{Constant, is_optional_value}
use Rattle.vortex_base.specs.Data.Types.{as_nullable}
use Rattle.vortex_base.specs.Data.Values.{is_value}
use Rattle.vortex_expr.specs.Meanings.Typing.{binary_type, comparison_type, type_of, with_types}
use Rattle.vortex_expr.specs.Trees.Tree.{Tree, Place, column, literal, binary, is_null, is_not_null}
use Rattle.vortex_expr.specs.Trees.TreeEq.{place_eq, tree_eq_is_exact}
use Rattle.vortex_base.specs.declared.dtype.DType.{DType}
use Rattle.vortex_base.specs.declared.error.BaseError.{BaseError}
use Rattle.vortex_base.specs.declared.error.BaseError.TheVariants.{Mismatch}
use Rattle.vortex_base.specs.declared.scalar_value.ScalarValue.{ScalarValue}
use Rattle.vortex_expr.specs.declared.scalar_fn.Operator.{Operator}
use Rattle.vortex_expr.specs.declared.scalar_fn.StrictComparison.TheVariants.{Strict, NonStrict}
use Rattle.vortex_expr.specs.declared.scalar_fn.Operator.TheVariants.{Eq, NotEq, Gt, Gte, Lt, Lte, And, Or}
use Rattle.vortex_rewrite.proofs.Completeness.Interval.{is_comparison}
use Rattle.vortex_rewrite.proofs.Rewriting.ProofTypes.{AreComparable, alike_turned, are_alike, binary_is_predicate, predicates_connect}
use Rattle.vortex_rewrite.specs.Rewriting.Predicates.{is_connective, is_predicate}
use Rattle.vortex_normal.specs.Balanced.{balanced}
use Rattle.vortex_normal.specs.Groups.{Item, inside, other, add, add_sets, as_one, binary_item, collected, compared_item, cut_fits, interval_fits, is_of, item_fits, item_test, items_fit, items_test, leaf_item, lone_item, not_null_item, null_item, set_fits, sets_fit, widened}
use Rattle.vortex_normal.specs.Intervals.{Cut, Lowest, Before, After, Highest, Interval, all_but, at_most, between_cuts, combined, comparison_set, complement, cut_le, higher, hole_by, interval, interval_of, interval_test, is_empty, is_full, left_out, literal_as, only_hole, placed, range_of, set_test, share, sorted, swapped, unless_empty, values_test}
use Rattle.vortex_normal.specs.declared.interval.Interval.{Interval as LentInterval}
use Rattle.vortex_rewrite.specs.Rewriting.Falsifiers.{bool_literal}
use Rattle.vortex_normal.specs.Pushed.{connected}
use Rattle.vortex_normal.proofs.Pairs.{balanced_has}
use Rattle.vortex_normal.proofs.Forms.{connected_kept}
use Rattle.vortex_normal.proofs.Steps.{range_is_predicate, sides, typed, value_compares}

-- ---- sets

module _ (t : DType) where
  cut_if : (b : Bool) (c d : Cut) → cut_fits t c ≡ true → cut_fits t d ≡ true → cut_fits t (if b then c else d) ≡ true
  cut_if true c d h k = h
  cut_if false c d h k = k

  set_if : (b : Bool) (is js : List Interval) → set_fits t is ≡ true → set_fits t js ≡ true → set_fits t (if b then is else js) ≡ true
  set_if true is js h k = h
  set_if false is js h k = k

  append_fits : (is js : List Interval) → set_fits t is ≡ true → set_fits t js ≡ true → set_fits t (is ++ js) ≡ true
  append_fits [] js h k = k
  append_fits (i ∷ is) js h k = let w = and_parts (interval_fits t i) (set_fits t is) h in both_hold _ _ w.0 (append_fits is js w.1 k)

  placed_fits : (i : Interval) (js : List Interval) → interval_fits t i ≡ true → set_fits t js ≡ true → set_fits t (placed i js) ≡ true
  placed_fits i [] h k = both_hold _ _ h refl
  placed_fits i (j ∷ js) h k =
      let w = and_parts (interval_fits t j) (set_fits t js) k in
      set_if (cut_le i.low j.low) (i ∷ j ∷ js) (j ∷ placed i js) (both_hold _ _ h k) (both_hold _ _ w.0 (placed_fits i js h w.1))

  sorted_fits : (is : List Interval) → set_fits t is ≡ true → set_fits t (sorted is) ≡ true
  sorted_fits [] h = refl
  sorted_fits (i ∷ is) h = let w = and_parts (interval_fits t i) (set_fits t is) h in placed_fits i (sorted is) w.0 (sorted_fits is w.1)

  unless_fits : (i : Interval) (is : List Interval) → interval_fits t i ≡ true → set_fits t is ≡ true → set_fits t (unless_empty i is) ≡ true
  unless_fits i is h k = set_if (is_empty i) is (i ∷ is) k (both_hold _ _ h k)

  left_out_fits : (c : Cut) (is : List Interval) → cut_fits t c ≡ true → set_fits t is ≡ true → set_fits t (left_out c is) ≡ true
  left_out_fits c [] h k = unless_fits (interval c Highest) [] (both_hold _ _ h refl) refl
  left_out_fits c (i ∷ is) h k =
      let w = and_parts (interval_fits t i) (set_fits t is) k in
      let e = and_parts (cut_fits t i.low) (cut_fits t i.high) w.0 in
      unless_fits (interval c i.low) (left_out (higher c i.high) is) (both_hold _ _ h e.0)
      (left_out_fits (higher c i.high) is (cut_if (cut_le c i.high) i.high c e.1 h) w.1)

  complement_fits : (is : List Interval) → set_fits t is ≡ true → set_fits t (complement is) ≡ true
  complement_fits is h = left_out_fits Lowest (sorted is) refl (sorted_fits is h)

  share_fits : (w : Bool) (is : List Interval) → set_fits t is ≡ true → set_fits t (share w is) ≡ true
  share_fits true is h = complement_fits is h
  share_fits false is h = h

  shares_fit : (w : Bool) (iss : List (List Interval)) → sets_fit t iss ≡ true → set_fits t (flat_map (share w) iss) ≡ true
  shares_fit w [] h = refl
  shares_fit w (is ∷ iss) h =
      let k = and_parts (set_fits t is) (sets_fit t iss) h in
      append_fits (share w is) (flat_map (share w) iss) (share_fits w is k.0) (shares_fit w iss k.1)

  met_fits : (iss : List (List Interval)) → sets_fit t iss ≡ true → set_fits t (complement (flat_map (share true) iss)) ≡ true
  met_fits iss h = complement_fits (flat_map (share true) iss) (shares_fit true iss h)

  united_fits : (iss : List (List Interval)) → sets_fit t iss ≡ true → set_fits t (complement (complement (flat_map (share false) iss))) ≡ true
  united_fits iss h = complement_fits (complement (flat_map (share false) iss)) (complement_fits (flat_map (share false) iss) (shares_fit false iss h))

  pub combined_fits : (w : Bool) (iss : List (List Interval)) → sets_fit t iss ≡ true → set_fits t (combined w iss) ≡ true
  combined_fits w (is ∷ []) h = (and_parts (set_fits t is) true h).0
  combined_fits true [] h = met_fits [] h
  combined_fits false [] h = united_fits [] h
  combined_fits true (is ∷ js ∷ iss) h = met_fits (is ∷ js ∷ iss) h
  combined_fits false (is ∷ js ∷ iss) h = united_fits (is ∷ js ∷ iss) h

  sets_append : (iss jss : List (List Interval)) → sets_fit t iss ≡ true → sets_fit t jss ≡ true → sets_fit t (iss ++ jss) ≡ true
  sets_append [] jss h k = k
  sets_append (is ∷ iss) jss h k = let w = and_parts (set_fits t is) (sets_fit t iss) h in both_hold _ _ w.0 (sets_append iss jss w.1 k)

  one_fits : (is : List Interval) → set_fits t is ≡ true → sets_fit t (is ∷ []) ≡ true
  one_fits is h = both_hold _ _ h refl

  comparison_set_fits : (o : Operator) (v : ScalarValue) → is_value v t ≡ true → set_fits t (comparison_set o v) ≡ true
  comparison_set_fits Eq v h = both_hold _ _ (both_hold _ _ h h) refl
  comparison_set_fits NotEq v h = both_hold _ _ h (both_hold _ _ (both_hold _ _ h refl) refl)
  comparison_set_fits Gt v h = both_hold _ _ (both_hold _ _ h refl) refl
  comparison_set_fits Gte v h = both_hold _ _ (both_hold _ _ h refl) refl
  comparison_set_fits Lt v h = both_hold _ _ h refl
  comparison_set_fits Lte v h = both_hold _ _ h refl
  comparison_set_fits And v h = refl
  comparison_set_fits Or v h = refl

-- ---- the predicates that they are

connected_is : (w : Bool) (l r : Tree Place) → is_predicate l ≡ true → is_predicate r ≡ true → is_predicate (connected w l r) ≡ true
connected_is w l r h k =
    connected_kept (λ e. is_predicate e ≡ true) l r h k w
    (binary_is_predicate And l r (predicates_connect And l r refl h k))
    (binary_is_predicate Or l r (predicates_connect Or l r refl h k))

truth_is : (w : Bool) → is_predicate (bool_literal w) ≡ true
truth_is true = refl
truth_is false = refl

module _ (c : Place) where
  compared_is : (o : Operator) (v : ScalarValue) → is_connective o ≡ false → is_value v c.dtype ≡ true → is_predicate (binary o (column c) (literal_as c v)) ≡ true
  compared_is o v k h = binary_is_predicate o (column c) (literal_as c v) (value_compares o c v k h)

  closed_if : (l u : ScalarValue) (b : Bool) → is_value l c.dtype ≡ true → is_value u c.dtype ≡ true
      → is_predicate (if b then binary Eq (column c) (literal_as c l) else range_of c (record { lower_strict = NonStrict; upper_strict = NonStrict }) l u) ≡ true
  closed_if l u true h k = compared_is Eq l refl h
  closed_if l u false h k = range_is_predicate (record { lower_strict = NonStrict; upper_strict = NonStrict }) c l u h k

  cuts_are : (l u : Cut) → cut_fits c.dtype l ≡ true → cut_fits c.dtype u ≡ true → is_predicate (between_cuts c l u) ≡ true
  cuts_are Lowest Highest h k = refl
  cuts_are Lowest (Before u) h k = compared_is Lt u refl k
  cuts_are Lowest (After u) h k = compared_is Lte u refl k
  cuts_are (Before l) Highest h k = compared_is Gte l refl h
  cuts_are (After l) Highest h k = compared_is Gt l refl h
  cuts_are (Before l) (Before u) h k = range_is_predicate (record { lower_strict = NonStrict; upper_strict = Strict }) c l u h k
  cuts_are (Before l) (After u) h k = closed_if l u (at_most u l && at_most l u) h k
  cuts_are (After l) (Before u) h k = range_is_predicate (record { lower_strict = Strict; upper_strict = Strict }) c l u h k
  cuts_are (After l) (After u) h k = range_is_predicate (record { lower_strict = Strict; upper_strict = NonStrict }) c l u h k
  cuts_are Lowest Lowest h k = refl
  cuts_are (Before l) Lowest h k = refl
  cuts_are (After l) Lowest h k = refl
  cuts_are Highest Lowest h k = refl
  cuts_are Highest (Before u) h k = refl
  cuts_are Highest (After u) h k = refl
  cuts_are Highest Highest h k = refl

  two_are : (o : Operator) (l r : Tree Place) → is_connective o ≡ true → is_predicate l ≡ true → is_predicate r ≡ true → is_predicate (binary o l r) ≡ true
  two_are o l r k h i = binary_is_predicate o l r (predicates_connect o l r k h i)

  -- the value of a hole is of the type, as the cut below it is
  pub hole_fits : (a b d e : Cut) (v : ScalarValue) → cut_fits c.dtype b ≡ true → hole_by a b d e ≡ Some v → is_value v c.dtype ≡ true
  hole_fits Lowest (Before u) (After l) Highest v h k = of_if (at_most u l && at_most l u) k
    where
      of_if : (b : Bool) → (if b then Some u else None) ≡ Some v → is_value v c.dtype ≡ true
      of_if true k = sym (ap (λ x. is_value x c.dtype) (same_Some u v k)) ∙ h
      of_if false k = absurd (none-some v k)
  hole_fits a b d e v h k = absurd (none-some v k)

  all_but_is : (o : Option ScalarValue) (e : Tree Place) → ((v : ScalarValue) → o ≡ Some v → is_value v c.dtype ≡ true) → is_predicate e ≡ true → is_predicate (all_but c o e) ≡ true
  all_but_is (Some v) e f h = compared_is NotEq v refl (f v refl)
  all_but_is None e f h = h

  intervals_are : (is : List Interval) → set_fits c.dtype is ≡ true → AllByRecursion (λ e. is_predicate e ≡ true) (map (interval_test c) is)
  intervals_are [] h = tt
  intervals_are (i ∷ is) h =
      let a = and_parts (interval_fits c.dtype i) (set_fits c.dtype is) h in
      let w = and_parts (cut_fits c.dtype i.low) (cut_fits c.dtype i.high) a.0 in
      (cuts_are i.low i.high w.0 w.1, intervals_are is a.1)

  set_is : (is : List Interval) → set_fits c.dtype is ≡ true → is_predicate (set_test c is) ≡ true
  set_is [] h = refl
  set_is (i ∷ []) h =
      let w = and_parts (cut_fits c.dtype i.low) (cut_fits c.dtype i.high) (and_parts (interval_fits c.dtype i) true h).0 in
      cuts_are i.low i.high w.0 w.1
  set_is (i ∷ j ∷ []) h =
      let a = and_parts (interval_fits c.dtype i) (set_fits c.dtype (j ∷ [])) h in
      let w = and_parts (cut_fits c.dtype i.low) (cut_fits c.dtype i.high) a.0 in
      let x = and_parts (cut_fits c.dtype j.low) (cut_fits c.dtype j.high) (and_parts (interval_fits c.dtype j) true a.1).0 in
      all_but_is (only_hole i j) (binary Or (between_cuts c i.low i.high) (between_cuts c j.low j.high)) (λ v e. hole_fits i.low i.high j.low j.high v w.1 e)
      (two_are Or (between_cuts c i.low i.high) (between_cuts c j.low j.high) refl (cuts_are i.low i.high w.0 w.1) (cuts_are j.low j.high x.0 x.1))
  set_is (i ∷ j ∷ k ∷ is) h = balanced_has (λ e. is_predicate e ≡ true) false (connected_is false) (map (interval_test c) (i ∷ j ∷ k ∷ is)) refl (intervals_are (i ∷ j ∷ k ∷ is) h)

  null_if : (is : List Interval) (b : Bool) → is_predicate (set_test c is) ≡ true → is_predicate (if b then bool_literal true else binary Or (is_null (column c)) (set_test c is)) ≡ true
  null_if is true h = refl
  null_if is false h = two_are Or (is_null (column c)) (set_test c is) refl refl h

  values_are : (m : Bool) (is : List Interval) → set_fits c.dtype is ≡ true → is_predicate (values_test c m is) ≡ true
  values_are false is h = set_is is h
  values_are true [] h = refl
  values_are true (i ∷ is) h = null_if (i ∷ is) (is_full (i ∷ is)) (set_is (i ∷ is) h)

item_is : (w : Bool) (i : Item) → item_fits i ≡ true → is_predicate (item_test w i) ≡ true
item_is w (inside c m iss) h = values_are c m (combined w iss) (combined_fits c.dtype w iss h)
item_is w (other e) h = h

tests_are : (w : Bool) (is : List Item) → items_fit is ≡ true → AllByRecursion (λ e. is_predicate e ≡ true) (map (item_test w) is)
tests_are w [] h = tt
tests_are w (i ∷ is) h = let a = and_parts (item_fits i) (items_fit is) h in (item_is w i a.0, tests_are w is a.1)

items_are : (w : Bool) (is : List Item) → items_fit is ≡ true → is_predicate (items_test w is) ≡ true
items_are w is h =
    connected_is w (balanced w (map (item_test w) is)) (bool_literal w)
    (balanced_has (λ e. is_predicate e ≡ true) w (connected_is w) (map (item_test w) is) (truth_is w) (tests_are w is h))
    (truth_is w)

-- ---- leaves

as_comparison : (o : Operator) (a b : Result DType BaseError) → is_comparison o ≡ true → IsOk (with_types (binary_type o) a b) → IsOk (with_types comparison_type a b)
as_comparison Eq a b c h = h
as_comparison NotEq a b c h = h
as_comparison Gt a b c h = h
as_comparison Gte a b c h = h
as_comparison Lt a b c h = h
as_comparison Lte a b c h = h
as_comparison And a b c h = cc
as_comparison Or a b c h = cc

abbrev checked : Bool → DType → Result DType BaseError
checked b t = if b then Ok t else Err Mismatch

literal_by : (b : Bool) (s t : DType) → checked b s ≡ Ok t → (b ≡ true) × (s ≡ t)
literal_by true s t h = (refl, cc)
literal_by false s t h = absurd cc

same_type : (s t : DType) → type_of (column (record { index = 0; dtype = s })) ≡ Ok t → s ≡ t
same_type s t h = cc

-- a literal that is compared with a column is of its type
of_column : (c : Place) (d : Constant) (v : ScalarValue) → AreComparable (column c) (literal d) → d.value ≡ Some v → is_value v c.dtype ≡ true
of_column c d v a e =
    let k = literal_by (is_optional_value d.value d.dtype) d.dtype a.right_type a.right in
    let left : c.dtype ≡ a.left_type = same_type c.dtype a.left_type a.left in
    let valued : is_value v d.dtype ≡ true = sym (ap (λ o. is_optional_value o d.dtype) e) ∙ k.0 in
    sym (is_value-as_nullable v c.dtype)
    ∙ ap (λ t. is_value v (as_nullable t)) left
    ∙ ap (is_value v) a.same
    ∙ ap (λ t. is_value v (as_nullable t)) (sym k.1)
    ∙ is_value-as_nullable v d.dtype
    ∙ valued

compared_item_fits : (o : Operator) (c : Place) (v : Option ScalarValue) (e : Tree Place) → (is_comparison o ≡ true → (x : ScalarValue) → v ≡ Some x → is_value x c.dtype ≡ true) → is_predicate e ≡ true
    → item_fits (compared_item o c v e) ≡ true
compared_item_fits And c v e f h = h
compared_item_fits Or c v e f h = h
compared_item_fits Eq c (Some v) e f h = one_fits c.dtype (comparison_set Eq v) (comparison_set_fits c.dtype Eq v (f refl v refl))
compared_item_fits NotEq c (Some v) e f h = one_fits c.dtype (comparison_set NotEq v) (comparison_set_fits c.dtype NotEq v (f refl v refl))
compared_item_fits Gt c (Some v) e f h = one_fits c.dtype (comparison_set Gt v) (comparison_set_fits c.dtype Gt v (f refl v refl))
compared_item_fits Gte c (Some v) e f h = one_fits c.dtype (comparison_set Gte v) (comparison_set_fits c.dtype Gte v (f refl v refl))
compared_item_fits Lt c (Some v) e f h = one_fits c.dtype (comparison_set Lt v) (comparison_set_fits c.dtype Lt v (f refl v refl))
compared_item_fits Lte c (Some v) e f h = one_fits c.dtype (comparison_set Lte v) (comparison_set_fits c.dtype Lte v (f refl v refl))
compared_item_fits Eq c None e f h = h
compared_item_fits NotEq c None e f h = h
compared_item_fits Gt c None e f h = h
compared_item_fits Gte c None e f h = h
compared_item_fits Lt c None e f h = h
compared_item_fits Lte c None e f h = h

of_swapped : (o : Operator) → is_comparison (swapped o) ≡ true → is_comparison o ≡ true
of_swapped Eq c = refl
of_swapped NotEq c = refl
of_swapped Gt c = refl
of_swapped Gte c = refl
of_swapped Lt c = refl
of_swapped Lte c = refl
of_swapped And c = cc
of_swapped Or c = cc

alike : (o : Operator) (l r : Tree Place) → is_comparison o ≡ true → is_predicate (binary o l r) ≡ true → AreComparable l r
alike o l r c h = are_alike l r (as_comparison o (type_of l) (type_of r) c (typed (binary o l r) h))

binary_item_fits : (o : Operator) (l r : Tree Place) → is_predicate (binary o l r) ≡ true → item_fits (binary_item o l r (binary o l r)) ≡ true
binary_item_fits o (column c) (literal d) h =
    compared_item_fits o c d.value (binary o (column c) (literal d)) (λ k x e. of_column c d x (alike o (column c) (literal d) k h) e) h
binary_item_fits o (literal d) (column c) h =
    compared_item_fits (swapped o) c d.value (binary o (literal d) (column c))
    (λ k x e. of_column c d x (alike_turned (literal d) (column c) (alike o (literal d) (column c) (of_swapped o k) h)) e) h
binary_item_fits o l r h = h

null_fits : (x : Tree Place) → is_predicate (is_null x) ≡ true → item_fits (null_item x (is_null x)) ≡ true
null_fits (column c) h = refl
null_fits x h = h

not_null_fits : (x : Tree Place) → is_predicate (is_not_null x) ≡ true → item_fits (not_null_item x (is_not_null x)) ≡ true
not_null_fits (column c) h = refl
not_null_fits x h = h

leaf_fits : (e : Tree Place) → is_predicate e ≡ true → item_fits (leaf_item e) ≡ true
leaf_fits (binary o l r) h = binary_item_fits o l r h
leaf_fits (is_null x) h = null_fits x h
leaf_fits (is_not_null x) h = not_null_fits x h
leaf_fits e h = h

-- ---- chains

same_dtype : (c d : Place) → place_eq c d ≡ true → c.dtype ≡ d.dtype
same_dtype c d h = let e : column c ≡ column d = (tree_eq_is_exact (column c) (column d)).0 h in same_type c.dtype d.dtype (ap type_of e)

widened_fits : (w : Bool) (c : Place) (m : Bool) (iss : List (List Interval)) (j : Item) → is_of c j ≡ true → sets_fit c.dtype iss ≡ true → item_fits j ≡ true → item_fits (widened w m iss j) ≡ true
widened_fits w c m iss (inside d n jss) e h k = sets_append d.dtype jss iss k (sym (ap (λ t. sets_fit t iss) (same_dtype c d e)) ∙ h)
widened_fits w c m iss (other x) e h k = k

add_if : (w : Bool) (c : Place) (m : Bool) (iss : List (List Interval)) (j : Item) (js : List Item) (b : Bool) → is_of c j ≡ b → sets_fit c.dtype iss ≡ true → item_fits j ≡ true → items_fit js ≡ true
    → items_fit (add_sets w c m iss js) ≡ true → items_fit (if b then widened w m iss j ∷ js else j ∷ add_sets w c m iss js) ≡ true
add_if w c m iss j js true e h k a r = both_hold _ _ (widened_fits w c m iss j e h k) a
add_if w c m iss j js false e h k a r = both_hold _ _ k r

add_sets_fit : (w : Bool) (c : Place) (m : Bool) (iss : List (List Interval)) (js : List Item) → sets_fit c.dtype iss ≡ true → items_fit js ≡ true → items_fit (add_sets w c m iss js) ≡ true
add_sets_fit w c m iss [] h k = both_hold _ _ h refl
add_sets_fit w c m iss (j ∷ js) h k =
    let a = and_parts (item_fits j) (items_fit js) k in
    add_if w c m iss j js (is_of c j) refl h a.0 a.1 (add_sets_fit w c m iss js h a.1)

last_fits : (i : Item) (js : List Item) → item_fits i ≡ true → items_fit js ≡ true → items_fit (js ++ i ∷ []) ≡ true
last_fits i [] h k = both_hold _ _ h refl
last_fits i (j ∷ js) h k = let a = and_parts (item_fits j) (items_fit js) k in both_hold _ _ a.0 (last_fits i js h a.1)

add_fits : (w : Bool) (i : Item) (js : List Item) → item_fits i ≡ true → items_fit js ≡ true → items_fit (add w i js) ≡ true
add_fits w (inside c m iss) js h k = add_sets_fit w c m iss js h k
add_fits w (other e) js h k = last_fits (other e) js h k

alone_fits : (w : Bool) (i : Item) → item_fits i ≡ true → item_fits (lone_item w i) ≡ true
alone_fits w (inside c m iss) h = one_fits c.dtype (combined w iss) (combined_fits c.dtype w iss h)
alone_fits w (other e) h = h

as_one_fits : (v : Bool) (is : List Item) → items_fit is ≡ true → item_fits (as_one v is) ≡ true
as_one_fits v [] h = items_are v [] h
as_one_fits v (i ∷ []) h = alone_fits v i (and_parts (item_fits i) true h).0
as_one_fits v (i ∷ j ∷ is) h = items_are v (i ∷ j ∷ is) h

lone_fits : (w : Bool) (e : Tree Place) (is : List Item) → is_predicate e ≡ true → items_fit is ≡ true → items_fit (add w (leaf_item e) is) ≡ true
lone_fits w e is h k = add_fits w (leaf_item e) is (leaf_fits e h) k

pub collected_fit : (w : Bool) (e : Tree Place) (is : List Item) → is_predicate e ≡ true → items_fit is ≡ true → items_fit (collected w e is) ≡ true
collected_fit true (binary And l r) is h k =
    let p = sides And l r refl h in
    collected_fit true r (collected true l is) p.1 (collected_fit true l is p.0 k)
collected_fit false (binary And l r) is h k =
    let p = sides And l r refl h in
    let inner = collected true r (collected true l []) in
    add_fits false (as_one true inner) is (as_one_fits true inner (collected_fit true r (collected true l []) p.1 (collected_fit true l [] p.0 refl))) k
collected_fit true (binary Or l r) is h k =
    let p = sides Or l r refl h in
    let inner = collected false r (collected false l []) in
    add_fits true (as_one false inner) is (as_one_fits false inner (collected_fit false r (collected false l []) p.1 (collected_fit false l [] p.0 refl))) k
collected_fit false (binary Or l r) is h k =
    let p = sides Or l r refl h in
    collected_fit false r (collected false l is) p.1 (collected_fit false l is p.0 k)
collected_fit w (binary Eq l r) is h k = lone_fits w (binary Eq l r) is h k
collected_fit w (binary NotEq l r) is h k = lone_fits w (binary NotEq l r) is h k
collected_fit w (binary Gt l r) is h k = lone_fits w (binary Gt l r) is h k
collected_fit w (binary Gte l r) is h k = lone_fits w (binary Gte l r) is h k
collected_fit w (binary Lt l r) is h k = lone_fits w (binary Lt l r) is h k
collected_fit w (binary Lte l r) is h k = lone_fits w (binary Lte l r) is h k
collected_fit w e is h k = lone_fits w e is h k

-- what is collected of two sides fits
pub both_fit : (v : Bool) (l r : Tree Place) → is_predicate l ≡ true → is_predicate r ≡ true → items_fit (collected v r (collected v l [])) ≡ true
both_fit v l r h k = collected_fit v r (collected v l []) k (collected_fit v l [] h refl)

-- ---- slices of what fits

-- each of a set's intervals fits
pub each_fits : (t : DType) (s : List LentInterval) (n : ℕ) (i d : LentInterval) → n < length s → i ≡ get_or s n d → set_fits t (map interval_of s) ≡ true → interval_fits t (interval_of i) ≡ true
each_fits t [] n i d l e h = absurd (omega (arith, l))
each_fits t (j ∷ s) zero i d l e h = ap (λ k. interval_fits t (interval_of k)) e ∙ (and_parts (interval_fits t (interval_of j)) (set_fits t (map interval_of s)) h).0
each_fits t (j ∷ s) (suc n) i d l e h = each_fits t s n i d (omega (arith, l)) e (and_parts (interval_fits t (interval_of j)) (set_fits t (map interval_of s)) h).1
