-- The sets of a predicate's items are separate.
use Rattle.std.proofs.Common.{◌≡◌, Bool, true, false, not as not_b, ◌&&◌, List, [], ◌∷◌, ◌++◌, Option, Some, None, refl, ap, if◌then◌else◌}
use Rattle.std.proofs.lemmas.Bool.{and_parts}
use Rattle.vortex_base.specs.Data.Exact.{both_hold}
use Rattle.vortex_expr.specs.Trees.Tree.{Tree, Place, column, literal, binary, is_null, is_not_null}
use Rattle.vortex_base.specs.declared.scalar_value.ScalarValue.{ScalarValue}
use Rattle.vortex_expr.specs.declared.scalar_fn.Operator.{Operator}
use Rattle.vortex_expr.specs.declared.scalar_fn.Operator.TheVariants.{Eq, NotEq, Gt, Gte, Lt, Lte, And, Or}
use Rattle.vortex_rewrite.proofs.Soundness.ValueTests.{le_refl}
use Rattle.vortex_normal.specs.Groups.{Item, inside, other, add, add_sets, as_one, binary_item, collected, compared_item, is_of, leaf_item, lone_item, not_null_item, null_item, widened}
use Rattle.vortex_normal.specs.Intervals.{Interval, combined, comparison_set, swapped}
use Rattle.vortex_normal.specs.Separate.{are_of_separate, are_separate, is_of_separate, is_separate}
use Rattle.vortex_normal.proofs.Separate.{combined_separate}

-- ---- leaves

comparison_separate : (o : Operator) (v : ScalarValue) → is_separate (comparison_set o v) ≡ true
comparison_separate Eq v = ap (λ b. not_b (not_b b) && true) (le_refl v)
comparison_separate NotEq v = ap (λ b. not_b (not_b b) && true) (le_refl v)
comparison_separate Gt v = refl
comparison_separate Gte v = refl
comparison_separate Lt v = refl
comparison_separate Lte v = refl
comparison_separate And v = refl
comparison_separate Or v = refl

one_separate : (is : List Interval) → is_separate is ≡ true → are_separate (is ∷ []) ≡ true
one_separate is h = both_hold _ _ h refl

compared_separate : (o : Operator) (c : Place) (v : Option ScalarValue) (e : Tree Place) → is_of_separate (compared_item o c v e) ≡ true
compared_separate And c v e = refl
compared_separate Or c v e = refl
compared_separate Eq c (Some v) e = one_separate (comparison_set Eq v) (comparison_separate Eq v)
compared_separate NotEq c (Some v) e = one_separate (comparison_set NotEq v) (comparison_separate NotEq v)
compared_separate Gt c (Some v) e = refl
compared_separate Gte c (Some v) e = refl
compared_separate Lt c (Some v) e = refl
compared_separate Lte c (Some v) e = refl
compared_separate Eq c None e = refl
compared_separate NotEq c None e = refl
compared_separate Gt c None e = refl
compared_separate Gte c None e = refl
compared_separate Lt c None e = refl
compared_separate Lte c None e = refl

binary_separate : (o : Operator) (l r e : Tree Place) → is_of_separate (binary_item o l r e) ≡ true
binary_separate o (column c) (literal d) e = compared_separate o c d.value e
binary_separate o (literal d) (column c) e = compared_separate (swapped o) c d.value e
binary_separate o l r e = refl

null_separate : (x e : Tree Place) → is_of_separate (null_item x e) ≡ true
null_separate (column c) e = refl
null_separate x e = refl

not_null_separate : (x e : Tree Place) → is_of_separate (not_null_item x e) ≡ true
not_null_separate (column c) e = refl
not_null_separate x e = refl

leaf_separate : (e : Tree Place) → is_of_separate (leaf_item e) ≡ true
leaf_separate (binary o l r) = binary_separate o l r (binary o l r)
leaf_separate (is_null x) = null_separate x (is_null x)
leaf_separate (is_not_null x) = not_null_separate x (is_not_null x)
leaf_separate e = refl

-- ---- chains

append_separate : (iss jss : List (List Interval)) → are_separate iss ≡ true → are_separate jss ≡ true → are_separate (iss ++ jss) ≡ true
append_separate [] jss h k = k
append_separate (is ∷ iss) jss h k = let a = and_parts (is_separate is) (are_separate iss) h in both_hold _ _ a.0 (append_separate iss jss a.1 k)

widened_separate : (w m : Bool) (iss : List (List Interval)) (j : Item) → are_separate iss ≡ true → is_of_separate j ≡ true → is_of_separate (widened w m iss j) ≡ true
widened_separate w m iss (inside d n jss) h k = append_separate jss iss k h
widened_separate w m iss (other x) h k = k

add_sets_separate : (w : Bool) (c : Place) (m : Bool) (iss : List (List Interval)) (js : List Item) → are_separate iss ≡ true → are_of_separate js ≡ true → are_of_separate (add_sets w c m iss js) ≡ true
add_sets_separate w c m iss [] h k = both_hold _ _ h refl
add_sets_separate w c m iss (j ∷ js) h k =
    let a = and_parts (is_of_separate j) (are_of_separate js) k in
    by_test (is_of c j) (both_hold _ _ (widened_separate w m iss j h a.0) a.1) (both_hold _ _ a.0 (add_sets_separate w c m iss js h a.1))
  where
    by_test : (b : Bool) → are_of_separate (widened w m iss j ∷ js) ≡ true → are_of_separate (j ∷ add_sets w c m iss js) ≡ true
        → are_of_separate (if b then widened w m iss j ∷ js else j ∷ add_sets w c m iss js) ≡ true
    by_test true h k = h
    by_test false h k = k

last_separate : (i : Item) (js : List Item) → is_of_separate i ≡ true → are_of_separate js ≡ true → are_of_separate (js ++ i ∷ []) ≡ true
last_separate i [] h k = both_hold _ _ h refl
last_separate i (j ∷ js) h k = let a = and_parts (is_of_separate j) (are_of_separate js) k in both_hold _ _ a.0 (last_separate i js h a.1)

add_separate : (w : Bool) (i : Item) (js : List Item) → is_of_separate i ≡ true → are_of_separate js ≡ true → are_of_separate (add w i js) ≡ true
add_separate w (inside c m iss) js h k = add_sets_separate w c m iss js h k
add_separate w (other e) js h k = last_separate (other e) js h k

lone_separate : (w : Bool) (i : Item) → is_of_separate i ≡ true → is_of_separate (lone_item w i) ≡ true
lone_separate w (inside c m iss) h = one_separate (combined w iss) (combined_separate w iss h)
lone_separate w (other e) h = refl

as_one_separate : (w : Bool) (is : List Item) → are_of_separate is ≡ true → is_of_separate (as_one w is) ≡ true
as_one_separate w [] h = refl
as_one_separate w (i ∷ []) h = lone_separate w i (and_parts (is_of_separate i) true h).0
as_one_separate w (i ∷ j ∷ is) h = refl

leaf_added : (w : Bool) (e : Tree Place) (is : List Item) → are_of_separate is ≡ true → are_of_separate (add w (leaf_item e) is) ≡ true
leaf_added w e is k = add_separate w (leaf_item e) is (leaf_separate e) k

pub collected_separate : (w : Bool) (e : Tree Place) (is : List Item) → are_of_separate is ≡ true → are_of_separate (collected w e is) ≡ true
collected_separate true (binary And l r) is k = collected_separate true r (collected true l is) (collected_separate true l is k)
collected_separate false (binary And l r) is k =
    let inner = collected true r (collected true l []) in
    add_separate false (as_one true inner) is (as_one_separate true inner (collected_separate true r (collected true l []) (collected_separate true l [] refl))) k
collected_separate true (binary Or l r) is k =
    let inner = collected false r (collected false l []) in
    add_separate true (as_one false inner) is (as_one_separate false inner (collected_separate false r (collected false l []) (collected_separate false l [] refl))) k
collected_separate false (binary Or l r) is k = collected_separate false r (collected false l is) (collected_separate false l is k)
collected_separate w (binary Eq l r) is k = leaf_added w (binary Eq l r) is k
collected_separate w (binary NotEq l r) is k = leaf_added w (binary NotEq l r) is k
collected_separate w (binary Gt l r) is k = leaf_added w (binary Gt l r) is k
collected_separate w (binary Gte l r) is k = leaf_added w (binary Gte l r) is k
collected_separate w (binary Lt l r) is k = leaf_added w (binary Lt l r) is k
collected_separate w (binary Lte l r) is k = leaf_added w (binary Lte l r) is k
collected_separate w e is k = leaf_added w e is k

-- those of two sides, one after the other
pub both_separate : (w : Bool) (l r : Tree Place) → are_of_separate (collected w r (collected w l [])) ≡ true
both_separate w l r = collected_separate w r (collected w l []) (collected_separate w l [] refl)
