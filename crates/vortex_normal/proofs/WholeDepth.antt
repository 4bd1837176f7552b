-- A whole normal form is no deeper than the leaves of a predicate, or the tests of its sets, and the logarithm of the number of leaves at each turn.
use Rattle.std.proofs.Common.{◌≡◌, ℕ, suc, ◌+◌, ◌*◌, ◌^◌, ◌≤◌, Bool, true, false, List, [], ◌∷◌, ◌++◌, Option, Some, None, length, max, refl, ap, ◌∙◌, arith, if◌then◌else◌, length-append}
use Rattle.std.proofs.Math.Nat.{mul-le-mul_left, pow-suc}
use Rattle.std.specs.List.{AllByRecursion, flat_map}
use Rattle.vortex_expr.specs.Trees.Tree.{Tree, Place, column, literal, binary, is_null, is_not_null, not}
use Rattle.vortex_base.specs.declared.scalar_value.ScalarValue.{ScalarValue}
use Rattle.vortex_expr.specs.declared.scalar_fn.Operator.{Operator}
use Rattle.vortex_expr.specs.declared.scalar_fn.Operator.TheVariants.{Eq, NotEq, Gt, Gte, Lt, Lte, And, Or}
use Rattle.vortex_rewrite.specs.Rewriting.Falsifiers.{bool_literal}
use Rattle.vortex_normal.specs.Balanced.{depth}
use Rattle.vortex_normal.specs.Groups.{Item, inside, other, add, add_sets, as_one, binary_item, collected, compared_item, grouped, is_of, item_test, items_test, leaf_item, not_null_item, null_item, widened}
use Rattle.vortex_normal.specs.Intervals.{Cut, Lowest, Highest, Interval, combined, comparison_set, complement, cut_le, higher, interval, is_empty, is_full, left_out, null_or, placed, set_test, share, sorted, swapped, unless_empty, values_test}
use Rattle.vortex_normal.specs.Laws.{IsShallow, leaves, turns}
use Rattle.vortex_normal.proofs.Depth.{chains_are_shallow, sets_are_shallow}

-- ---- how many intervals a set has

unless_counted : (i : Interval) (is : List Interval) → length (unless_empty i is) ≤ length is + 1
unless_counted i is = by_test (is_empty i)
  where
    by_test : (b : Bool) → length (if b then is else i ∷ is) ≤ length is + 1
    by_test true = omega arith
    by_test false = omega arith

placed_counted : (i : Interval) (js : List Interval) → length (placed i js) ≡ length js + 1
placed_counted i [] = refl
placed_counted i (j ∷ js) = by_test (placed_counted i js) (cut_le i.low j.low)
  where
    by_test : length (placed i js) ≡ length js + 1 → (b : Bool) → length (if b then i ∷ j ∷ js else j ∷ placed i js) ≡ length (j ∷ js) + 1
    by_test h true = omega arith
    by_test h false = omega (arith, h)

sorted_counted : (is : List Interval) → length (sorted is) ≡ length is
sorted_counted [] = refl
sorted_counted (i ∷ is) = omega (arith, placed_counted i (sorted is), sorted_counted is)

left_out_counted : (c : Cut) (is : List Interval) → length (left_out c is) ≤ length is + 1
left_out_counted c [] = unless_counted (interval c Highest) []
left_out_counted c (i ∷ is) =
    omega (arith, unless_counted (interval c i.low) (left_out (higher c i.high) is), left_out_counted (higher c i.high) is)

complement_counted : (is : List Interval) → length (complement is) ≤ length is + 1
complement_counted is = omega (arith, left_out_counted Lowest (sorted is), sorted_counted is)

-- a set counts for its intervals and one more
abbrev sets_weight : List (List Interval) → ℕ
sets_weight [] = 0
sets_weight (is ∷ iss) = (length is + 1) + sets_weight iss

shares_met : (iss : List (List Interval)) → length (flat_map (share true) iss) ≤ sets_weight iss
shares_met [] = omega arith
shares_met (is ∷ iss) = omega (arith, length-append (complement is) (flat_map (share true) iss), complement_counted is, shares_met iss)

shares_united : (iss : List (List Interval)) → length (flat_map (share false) iss) + length iss ≤ sets_weight iss
shares_united [] = omega arith
shares_united (is ∷ iss) = omega (arith, length-append is (flat_map (share false) iss), shares_united iss)

combined_counted : (w : Bool) (iss : List (List Interval)) → length (combined w iss) ≤ sets_weight iss + 1
combined_counted w (is ∷ []) = omega arith
combined_counted true [] = complement_counted []
combined_counted false [] = omega arith
combined_counted true (is ∷ js ∷ iss) = omega (arith, complement_counted (flat_map (share true) (is ∷ js ∷ iss)), shares_met (is ∷ js ∷ iss))
combined_counted false (is ∷ js ∷ iss) =
    let all = flat_map (share false) (is ∷ js ∷ iss) in
    omega (arith, complement_counted (complement all), complement_counted all, shares_united (is ∷ js ∷ iss))

-- ---- how many items a chain has, and what their sets weigh

abbrev weight : Item → ℕ
weight (inside c n iss) = sets_weight iss
weight (other e) = 1

abbrev weights : List Item → ℕ
weights [] = 0
weights (i ∷ is) = weight i + weights is

sets_appended : (iss jss : List (List Interval)) → sets_weight (iss ++ jss) ≡ sets_weight iss + sets_weight jss
sets_appended [] jss = omega arith
sets_appended (is ∷ iss) jss = omega (arith, sets_appended iss jss)

appended : (i : Item) (js : List Item) → weights (js ++ i ∷ []) ≡ weights js + weight i
appended i [] = omega arith
appended i (j ∷ js) = omega (arith, appended i js)

one_more : (i : Item) (js : List Item) → length (js ++ i ∷ []) ≡ length js + 1
one_more i [] = refl
one_more i (j ∷ js) = omega (arith, one_more i js)

widened_weight : (w m : Bool) (iss : List (List Interval)) (j : Item) → weight (widened w m iss j) ≤ weight j + sets_weight iss
widened_weight w m iss (inside d n jss) = omega (arith, sets_appended jss iss)
widened_weight w m iss (other x) = omega arith

record Added (js before : List Item) (n : ℕ) : Type 0 where
  pub count : length js ≤ length before + 1
  pub weight : weights js ≤ weights before + n

add_sets_added : (w : Bool) (c : Place) (m : Bool) (iss : List (List Interval)) (js : List Item) → Added (add_sets w c m iss js) js (sets_weight iss)
add_sets_added w c m iss [] = record { count = omega arith; weight = omega arith }
add_sets_added w c m iss (j ∷ js) = by_test (add_sets_added w c m iss js) (is_of c j)
  where
    by_test : Added (add_sets w c m iss js) js (sets_weight iss) → (b : Bool) → Added (if b then widened w m iss j ∷ js else j ∷ add_sets w c m iss js) (j ∷ js) (sets_weight iss)
    by_test r true = record { count = omega arith; weight = omega (arith, widened_weight w m iss j) }
    by_test r false = record { count = omega (arith, r.count); weight = omega (arith, r.weight) }

added : (w : Bool) (i : Item) (js : List Item) → Added (add w i js) js (weight i)
added w (inside c m iss) js = add_sets_added w c m iss js
added w (other e) js = record { count = omega (arith, one_more (other e) js); weight = omega (arith, appended (other e) js) }

set_weight : (o : Operator) (v : ScalarValue) → length (comparison_set o v) ≤ 2
set_weight Eq v = omega arith
set_weight NotEq v = omega arith
set_weight Gt v = omega arith
set_weight Gte v = omega arith
set_weight Lt v = omega arith
set_weight Lte v = omega arith
set_weight And v = omega arith
set_weight Or v = omega arith

compared_weight : (o : Operator) (c : Place) (v : Option ScalarValue) (e : Tree Place) → weight (compared_item o c v e) ≤ 3
compared_weight And c v e = omega arith
compared_weight Or c v e = omega arith
compared_weight Eq c (Some v) e = omega arith
compared_weight NotEq c (Some v) e = omega arith
compared_weight Gt c (Some v) e = omega arith
compared_weight Gte c (Some v) e = omega arith
compared_weight Lt c (Some v) e = omega arith
compared_weight Lte c (Some v) e = omega arith
compared_weight Eq c None e = omega arith
compared_weight NotEq c None e = omega arith
compared_weight Gt c None e = omega arith
compared_weight Gte c None e = omega arith
compared_weight Lt c None e = omega arith
compared_weight Lte c None e = omega arith

binary_weight : (o : Operator) (l r e : Tree Place) → weight (binary_item o l r e) ≤ 3
binary_weight o (column c) (literal d) e = compared_weight o c d.value e
binary_weight o (literal d) (column c) e = compared_weight (swapped o) c d.value e
binary_weight o l r e = omega arith

null_weight : (x e : Tree Place) → weight (null_item x e) ≤ 3
null_weight (column c) e = omega arith
null_weight x e = omega arith

not_null_weight : (x e : Tree Place) → weight (not_null_item x e) ≤ 3
not_null_weight (column c) e = omega arith
not_null_weight x e = omega arith

leaf_weight : (e : Tree Place) → weight (leaf_item e) ≤ 3
leaf_weight (binary o l r) = binary_weight o l r (binary o l r)
leaf_weight (is_null x) = null_weight x (is_null x)
leaf_weight (is_not_null x) = not_null_weight x (is_not_null x)
leaf_weight e = omega arith

as_one_weight : (w : Bool) (is : List Item) → weight (as_one w is) ≤ weights is + 2
as_one_weight w [] = omega arith
as_one_weight w (inside c n iss ∷ []) = omega (arith, combined_counted w iss)
as_one_weight w (other e ∷ []) = omega arith
as_one_weight w (i ∷ j ∷ is) = omega arith

some_leaves : (e : Tree Place) → 1 ≤ leaves e
some_leaves (binary And l r) = omega (arith, some_leaves l)
some_leaves (binary Or l r) = omega (arith, some_leaves l)
some_leaves (binary Eq l r) = omega arith
some_leaves (binary NotEq l r) = omega arith
some_leaves (binary Gt l r) = omega arith
some_leaves (binary Gte l r) = omega arith
some_leaves (binary Lt l r) = omega arith
some_leaves (binary Lte l r) = omega arith
some_leaves (not x) = some_leaves x
some_leaves e = omega arith

record Collected (js before : List Item) (n : ℕ) : Type 0 where
  pub count : length js ≤ length before + n
  pub weight : weights js + 2 ≤ weights before + n * 5

leaf_collected : (w : Bool) (e : Tree Place) (is : List Item) → Collected (add w (leaf_item e) is) is (leaves e)
leaf_collected w e is =
    let r = added w (leaf_item e) is in
    record { count = omega (arith, r.count, some_leaves e); weight = omega (arith, r.weight, leaf_weight e, some_leaves e) }

both_collected : (is js ks : List Item) (m n : ℕ) → Collected js is m → Collected ks js n → Collected ks is (m + n)
both_collected is js ks m n h k = record { count = omega (arith, h.count, k.count); weight = omega (arith, h.weight, k.weight) }

-- of both sides of a chain, as one item
turned_collected : (w v : Bool) (js ks is : List Item) (l r : Tree Place) → Collected js [] (leaves l) → Collected ks js (leaves r) → Collected (add w (as_one v ks) is) is (leaves l + leaves r)
turned_collected w v js ks is l r h k =
    let one = added w (as_one v ks) is in
    record { count = omega (arith, one.count, some_leaves l); weight = omega (arith, one.weight, as_one_weight v ks, h.weight, k.weight) }

counted : (w : Bool) (e : Tree Place) (is : List Item) → Collected (collected w e is) is (leaves e)
counted true (binary And l r) is = both_collected is (collected true l is) (collected true r (collected true l is)) (leaves l) (leaves r) (counted true l is) (counted true r (collected true l is))
counted false (binary And l r) is =
    let first = collected true l [] in
    turned_collected false true first (collected true r first) is l r (counted true l []) (counted true r first)
counted true (binary Or l r) is =
    let first = collected false l [] in
    turned_collected true false first (collected false r first) is l r (counted false l []) (counted false r first)
counted false (binary Or l r) is = both_collected is (collected false l is) (collected false r (collected false l is)) (leaves l) (leaves r) (counted false l is) (counted false r (collected false l is))
counted w (binary Eq l r) is = leaf_collected w (binary Eq l r) is
counted w (binary NotEq l r) is = leaf_collected w (binary NotEq l r) is
counted w (binary Gt l r) is = leaf_collected w (binary Gt l r) is
counted w (binary Gte l r) is = leaf_collected w (binary Gte l r) is
counted w (binary Lt l r) is = leaf_collected w (binary Lt l r) is
counted w (binary Lte l r) is = leaf_collected w (binary Lte l r) is
counted w e is = leaf_collected w e is

-- ---- how deep the items are

-- the sets are tested at most so deep by their number, and other predicates are at most so deep
abbrev IsOtherShallow : ℕ → Item → Type 0
IsOtherShallow d (inside c n iss) = Unit {0}
IsOtherShallow d (other e) = depth e ≤ d

abbrev OthersAreShallow : ℕ → List Item → Type 0
OthersAreShallow d is = AllByRecursion (IsOtherShallow d) is

null_shallow : (c : Place) (m : ℕ) (is : List Interval) → IsShallow (1 + m) (set_test c is) → IsShallow (m + 2) (null_or c is)
null_shallow c m [] h = omega arith
null_shallow c m (i ∷ is) h = by_test (is_full (i ∷ is))
  where
    by_test : (b : Bool) → IsShallow (m + 2) (if b then bool_literal true else binary Or (is_null (column c)) (set_test c (i ∷ is)))
    by_test true = omega arith
    by_test false = omega (arith, h)

values_shallow : (c : Place) (n : Bool) (m : ℕ) (is : List Interval) → length is ≤ 2 ^ m → IsShallow (m + 2) (values_test c n is)
values_shallow c true m is h = null_shallow c m is (sets_are_shallow c is m h)
values_shallow c false m is h = omega (arith, sets_are_shallow c is m h)

tests_shallow : (w : Bool) (d m : ℕ) (is : List Item) → OthersAreShallow d is → m + 2 ≤ d → weights is + 1 ≤ 2 ^ m → AllByRecursion (λ i. IsShallow d (item_test w i)) is
tests_shallow w d m [] h l k = tt
tests_shallow w d m (inside c n iss ∷ is) h l k =
    let v = values_shallow c n m (combined w iss) (omega (arith, k, combined_counted w iss)) in
    (omega (arith, v, l), tests_shallow w d m is h.1 l (omega (arith, k)))
tests_shallow w d m (other e ∷ is) h l k = (h.0, tests_shallow w d m is h.1 l (omega (arith, k)))

power_eight : (k : ℕ) → 2 ^ (k + 3) ≡ 8 * 2 ^ k
power_eight k =
    let e : k + 3 ≡ suc (suc (suc k)) = omega arith in
    ap (λ n. 2 ^ n) e ∙ omega (arith, pow-suc 2 (suc (suc k)), pow-suc 2 (suc k), pow-suc 2 k)

-- what items make up
items_shallow : (w : Bool) (d k n : ℕ) (is : List Item) → Collected is [] n → n ≤ 2 ^ k → OthersAreShallow d is → k + 5 ≤ d → IsShallow (d + k) (items_test w is)
items_shallow w d k n is c l h m =
    chains_are_shallow w is d k
    (tests_shallow w d (k + 3) is h (omega (arith, m)) (omega (arith, c.weight, power_eight k, l)))
    (omega (arith, c.count, l))

deeper_other : (d e : ℕ) (i : Item) → d ≤ e → IsOtherShallow d i → IsOtherShallow e i
deeper_other d e (inside c n iss) l h = tt
deeper_other d e (other x) l h = omega (arith, l, h)

as_one_shallow : (w : Bool) (d k n : ℕ) (is : List Item) → Collected is [] n → n ≤ 2 ^ k → OthersAreShallow d is → k + 5 ≤ d → IsOtherShallow (d + k) (as_one w is)
as_one_shallow w d k n [] c l h m = items_shallow w d k n [] c l h m
as_one_shallow w d k n (inside p b iss ∷ []) c l h m = tt
as_one_shallow w d k n (other e ∷ []) c l h m = omega (arith, h.0)
as_one_shallow w d k n (i ∷ j ∷ is) c l h m = items_shallow w d k n (i ∷ j ∷ is) c l h m

widened_shallow : (w m : Bool) (iss : List (List Interval)) (d : ℕ) (j : Item) → IsOtherShallow d j → IsOtherShallow d (widened w m iss j)
widened_shallow w m iss d (inside c n jss) h = tt
widened_shallow w m iss d (other x) h = h

add_sets_shallow : (w : Bool) (c : Place) (m : Bool) (iss : List (List Interval)) (d : ℕ) (js : List Item) → OthersAreShallow d js → OthersAreShallow d (add_sets w c m iss js)
add_sets_shallow w c m iss d [] h = (tt, tt)
add_sets_shallow w c m iss d (j ∷ js) h = by_test (add_sets_shallow w c m iss d js h.1) (is_of c j)
  where
    by_test : OthersAreShallow d (add_sets w c m iss js) → (b : Bool) → OthersAreShallow d (if b then widened w m iss j ∷ js else j ∷ add_sets w c m iss js)
    by_test r true = (widened_shallow w m iss d j h.0, h.1)
    by_test r false = (h.0, r)

last_shallow : (d : ℕ) (i : Item) (js : List Item) → IsOtherShallow d i → OthersAreShallow d js → OthersAreShallow d (js ++ i ∷ [])
last_shallow d i [] h k = (h, tt)
last_shallow d i (j ∷ js) h k = (k.0, last_shallow d i js h k.1)

add_shallow : (w : Bool) (d : ℕ) (i : Item) (js : List Item) → IsOtherShallow d i → OthersAreShallow d js → OthersAreShallow d (add w i js)
add_shallow w d (inside c m iss) js h k = add_sets_shallow w c m iss d js k
add_shallow w d (other e) js h k = last_shallow d (other e) js h k

compared_shallow : (o : Operator) (c : Place) (v : Option ScalarValue) (e : Tree Place) (d : ℕ) → depth e ≤ d → IsOtherShallow d (compared_item o c v e)
compared_shallow And c v e d h = h
compared_shallow Or c v e d h = h
compared_shallow Eq c (Some v) e d h = tt
compared_shallow NotEq c (Some v) e d h = tt
compared_shallow Gt c (Some v) e d h = tt
compared_shallow Gte c (Some v) e d h = tt
compared_shallow Lt c (Some v) e d h = tt
compared_shallow Lte c (Some v) e d h = tt
compared_shallow Eq c None e d h = h
compared_shallow NotEq c None e d h = h
compared_shallow Gt c None e d h = h
compared_shallow Gte c None e d h = h
compared_shallow Lt c None e d h = h
compared_shallow Lte c None e d h = h

binary_shallow : (o : Operator) (l r e : Tree Place) (d : ℕ) → depth e ≤ d → IsOtherShallow d (binary_item o l r e)
binary_shallow o (column c) (literal v) e d h = compared_shallow o c v.value e d h
binary_shallow o (literal v) (column c) e d h = compared_shallow (swapped o) c v.value e d h
binary_shallow o l r e d h = h

null_item_shallow : (x e : Tree Place) (d : ℕ) → depth e ≤ d → IsOtherShallow d (null_item x e)
null_item_shallow (column c) e d h = tt
null_item_shallow x e d h = h

not_null_item_shallow : (x e : Tree Place) (d : ℕ) → depth e ≤ d → IsOtherShallow d (not_null_item x e)
not_null_item_shallow (column c) e d h = tt
not_null_item_shallow x e d h = h

leaf_shallow : (e : Tree Place) (d : ℕ) → depth e ≤ d → IsOtherShallow d (leaf_item e)
leaf_shallow (binary o l r) d h = binary_shallow o l r (binary o l r) d h
leaf_shallow (is_null x) d h = null_item_shallow x (is_null x) d h
leaf_shallow (is_not_null x) d h = not_null_item_shallow x (is_not_null x) d h
leaf_shallow e d h = h

leaf_added : (w : Bool) (d : ℕ) (e : Tree Place) (is : List Item) → depth e ≤ d → OthersAreShallow d is → OthersAreShallow d (add w (leaf_item e) is)
leaf_added w d e is h k = add_shallow w d (leaf_item e) is (leaf_shallow e d h) k

-- ---- turns

-- the deepest of the predicates that AND and OR join
abbrev pub joined_depth : Operator → (l r d : ℕ) → ℕ
joined_depth And l r d = max l r
joined_depth Or l r d = max l r
joined_depth o l r d = d

abbrev pub leaf_depth : Tree Place → ℕ
leaf_depth (binary o l r) = joined_depth o (leaf_depth l) (leaf_depth r) (depth (binary o l r))
leaf_depth e = depth e

-- the bound of what has so deep leaves and takes so many turns
abbrev bound : (d k turns : ℕ) → ℕ
bound d k t = max d (k + 5) + k * t

left_bound : (d k s t : ℕ) → bound d k s ≤ bound d k (max s t)
left_bound d k s t = omega (arith, mul-le-mul_left {m = s} {n = max s t} k (omega arith))

right_bound : (d k s t : ℕ) → bound d k t ≤ bound d k (max s t)
right_bound d k s t = omega (arith, mul-le-mul_left {m = t} {n = max s t} k (omega arith))

more_turns : (d k t : ℕ) → bound d k t + k ≡ bound d k (t + 1)
more_turns d k t = omega arith

-- the items of a chain of the other connective, as one item
turned_shallow : (w v : Bool) (inner is : List Item) (n d k t b : ℕ) → Collected inner [] n → n ≤ 2 ^ k → OthersAreShallow (bound d k t) inner → bound d k (t + 1) ≤ b → OthersAreShallow b is
    → OthersAreShallow b (add w (as_one v inner) is)
turned_shallow w v inner is n d k t b c h o f g =
    let up : bound d k t + k ≤ b = omega (arith, more_turns d k t, f) in
    add_shallow w b (as_one v inner) is (deeper_other (bound d k t + k) b (as_one v inner) up (as_one_shallow v (bound d k t) k n inner c h o (omega arith))) g

shallow : (w : Bool) (e : Tree Place) (d k b : ℕ) (is : List Item) → leaves e ≤ 2 ^ k → leaf_depth e ≤ d → bound d k (turns w e) ≤ b → OthersAreShallow b is → OthersAreShallow b (collected w e is)
shallow true (binary And l r) d k b is h g f o =
    let s = turns true l in
    let t = turns true r in
    shallow true r d k b (collected true l is) (omega (arith, h)) (omega (arith, g)) (omega (arith, right_bound d k s t, f))
    (shallow true l d k b is (omega (arith, h)) (omega (arith, g)) (omega (arith, left_bound d k s t, f)) o)
shallow false (binary And l r) d k b is h g f o =
    let s = turns true l in
    let t = turns true r in
    let c = bound d k (max s t) in
    let first = collected true l [] in
    turned_shallow false true (collected true r first) is (leaves l + leaves r) d k (max s t) b
    (both_collected [] first (collected true r first) (leaves l) (leaves r) (counted true l []) (counted true r first)) h
    (shallow true r d k c first (omega (arith, h)) (omega (arith, g)) (right_bound d k s t) (shallow true l d k c [] (omega (arith, h)) (omega (arith, g)) (left_bound d k s t) tt)) f o
shallow true (binary Or l r) d k b is h g f o =
    let s = turns false l in
    let t = turns false r in
    let c = bound d k (max s t) in
    let first = collected false l [] in
    turned_shallow true false (collected false r first) is (leaves l + leaves r) d k (max s t) b
    (both_collected [] first (collected false r first) (leaves l) (leaves r) (counted false l []) (counted false r first)) h
    (shallow false r d k c first (omega (arith, h)) (omega (arith, g)) (right_bound d k s t) (shallow false l d k c [] (omega (arith, h)) (omega (arith, g)) (left_bound d k s t) tt)) f o
shallow false (binary Or l r) d k b is h g f o =
    let s = turns false l in
    let t = turns false r in
    shallow false r d k b (collected false l is) (omega (arith, h)) (omega (arith, g)) (omega (arith, right_bound d k s t, f))
    (shallow false l d k b is (omega (arith, h)) (omega (arith, g)) (omega (arith, left_bound d k s t, f)) o)
shallow w (binary Eq l r) d k b is h g f o = leaf_added w b (binary Eq l r) is (omega (arith, g, f)) o
shallow w (binary NotEq l r) d k b is h g f o = leaf_added w b (binary NotEq l r) is (omega (arith, g, f)) o
shallow w (binary Gt l r) d k b is h g f o = leaf_added w b (binary Gt l r) is (omega (arith, g, f)) o
shallow w (binary Gte l r) d k b is h g f o = leaf_added w b (binary Gte l r) is (omega (arith, g, f)) o
shallow w (binary Lt l r) d k b is h g f o = leaf_added w b (binary Lt l r) is (omega (arith, g, f)) o
shallow w (binary Lte l r) d k b is h g f o = leaf_added w b (binary Lte l r) is (omega (arith, g, f)) o
shallow w e d k b is h g f o = leaf_added w b e is (omega (arith, g, f)) o

pub grouped_shallow : (e : Tree Place) (d k t : ℕ) → leaves e ≤ 2 ^ k → leaf_depth e ≤ d → turns true e ≤ t → IsShallow (max d (k + 5) + k * (t + 1)) (grouped e)
grouped_shallow e d k t h g f =
    let b = bound d k t in
    let within : bound d k (turns true e) ≤ b = omega (arith, mul-le-mul_left {m = turns true e} {n = t} k f) in
    let all = items_shallow true b k (leaves e) (collected true e []) (counted true e []) h (shallow true e d k b [] h g within tt) (omega arith) in
    omega (arith, all, more_turns d k t)
