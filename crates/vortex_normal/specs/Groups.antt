-- AND and OR chains, with what is said of one column in one place.
use Rattle.std.specs.Prelude.{Bool, true, false, ◌&&◌, ◌||◌, List, [], ◌∷◌, ◌++◌, Option, Some, None, map, if◌then◌else◌}
use Rattle.vortex_expr.specs.declared.scalar_fn.Operator.{Operator}
use Rattle.vortex_expr.specs.declared.scalar_fn.Operator.TheVariants.{And, Or}
use Rattle.vortex_base.specs.declared.scalar_value.ScalarValue.{ScalarValue}
use Rattle.vortex_expr.specs.Trees.Tree.{Tree, Place, column, literal, binary, is_null, is_not_null}
use Rattle.vortex_expr.specs.Trees.TreeEq.{place_eq}
use Rattle.vortex_rewrite.specs.Rewriting.Falsifiers.{bool_literal}
use Rattle.vortex_base.specs.declared.dtype.DType.{DType}
use Rattle.vortex_base.specs.Data.Values.{is_value}
use Rattle.vortex_rewrite.specs.Rewriting.Predicates.{is_predicate}
use Rattle.vortex_normal.specs.declared.groups.Item.{Item as Kept}
use Rattle.vortex_normal.specs.declared.groups.Item.TheVariants as kept
use Rattle.vortex_normal.specs.Balanced.{balanced}
use Rattle.vortex_normal.specs.Intervals.{Cut, Lowest, Before, After, Highest, Interval, combined, comparison_set, interval, place_at, set_of, swapped, values_test}
use Rattle.vortex_normal.specs.Pushed.{connected, pushed}

-- a column has a value in sets that the chain's connective combines, or is null where that counts; or any other predicate
pub data Item : Type 0 where
  inside : Place → (with_null : Bool) → (sets : List (List Interval)) → Item
  other : Tree Place → Item

abbrev pub item_test : (is_and : Bool) → Item → Tree Place
item_test w (inside c n iss) = values_test c n (combined w iss)
item_test w (other e) = e

-- the predicate that the items make up, joined by AND or by OR
abbrev pub items_test : (is_and : Bool) → List Item → Tree Place
items_test w is = connected w (balanced w (map (item_test w) is)) (bool_literal w)

-- ---- items that fit

-- each value at a cut is of the type
abbrev pub cut_fits : DType → Cut → Bool
cut_fits t (Before v) = is_value v t
cut_fits t (After v) = is_value v t
cut_fits t Lowest = true
cut_fits t Highest = true

abbrev pub interval_fits : DType → Interval → Bool
interval_fits t i = cut_fits t i.low && cut_fits t i.high

abbrev pub set_fits : DType → List Interval → Bool
set_fits t [] = true
set_fits t (i ∷ is) = interval_fits t i && set_fits t is

abbrev pub sets_fit : DType → List (List Interval) → Bool
sets_fit t [] = true
sets_fit t (is ∷ iss) = set_fits t is && sets_fit t iss

-- the values are of the column's type, and any other predicate is one
abbrev pub item_fits : Item → Bool
item_fits (inside c n iss) = sets_fit c.dtype iss
item_fits (other e) = is_predicate e

abbrev pub items_fit : List Item → Bool
items_fit [] = true
items_fit (i ∷ is) = item_fits i && items_fit is

-- an item as it is kept
abbrev pub item_of : Kept → Item
item_of (kept.Inside v) = inside (place_at v.place v.dtype) v.with_null (map set_of v.sets.items)
item_of (kept.Other e) = other e

-- ---- leaves

-- a comparison with a literal that isn't null
abbrev pub compared_item : Operator → Place → Option ScalarValue → Tree Place → Item
compared_item And c v e = other e
compared_item Or c v e = other e
compared_item o c (Some v) e = inside c false (comparison_set o v ∷ [])
compared_item o c None e = other e

abbrev pub binary_item : Operator → (l r e : Tree Place) → Item
binary_item o (column c) (literal d) e = compared_item o c d.value e
binary_item o (literal d) (column c) e = compared_item (swapped o) c d.value e
binary_item o l r e = other e

abbrev pub null_item : (x e : Tree Place) → Item
null_item (column c) e = inside c true ([] ∷ [])
null_item x e = other e

abbrev pub not_null_item : (x e : Tree Place) → Item
not_null_item (column c) e = inside c false ((interval Lowest Highest ∷ []) ∷ [])
not_null_item x e = other e

abbrev pub leaf_item : Tree Place → Item
leaf_item (binary o l r) = binary_item o l r (binary o l r)
leaf_item (is_null x) = null_item x (is_null x)
leaf_item (is_not_null x) = not_null_item x (is_not_null x)
leaf_item e = other e

-- ---- chains

abbrev pub both_nulls : (is_and : Bool) → Bool → Bool → Bool
both_nulls true m n = m && n
both_nulls false m n = m || n

-- an item is of a column
abbrev pub is_of : Place → Item → Bool
is_of c (inside d n iss) = place_eq c d
is_of c (other e) = false

-- what an item says of its column, with what further sets do
abbrev pub widened : (is_and : Bool) → (with_null : Bool) → (sets : List (List Interval)) → Item → Item
widened w n iss (inside d m jss) = inside d (both_nulls w n m) (jss ++ iss)
widened w n iss (other e) = other e

-- what sets say of a column is joined to the first item of that column, if there is one
abbrev pub add_sets : (is_and : Bool) → Place → (with_null : Bool) → (sets : List (List Interval)) → List Item → List Item
add_sets w c n iss [] = inside c n iss ∷ []
add_sets w c n iss (j ∷ js) = if is_of c j then widened w n iss j ∷ js else j ∷ add_sets w c n iss js

abbrev pub add : (is_and : Bool) → Item → List Item → List Item
add w (inside c n iss) js = add_sets w c n iss js
add w (other e) js = js ++ other e ∷ []

-- the only item of a chain as one of another
abbrev pub lone_item : (is_and : Bool) → Item → Item
lone_item w (inside c n iss) = inside c n (combined w iss ∷ [])
lone_item w (other e) = other e

-- the items of a whole chain as one of another
abbrev pub as_one : (is_and : Bool) → List Item → Item
as_one w (i ∷ []) = lone_item w i
as_one w is = other (items_test w is)

-- the items of a chain, and then a predicate's: those of the same connective, or one
abbrev pub binary_items : Operator → (is_and : Bool) → (e : Tree Place) → (and_l and_r or_l or_r : List Item → List Item) → List Item → List Item
binary_items And true e al ar ol or is = ar (al is)
binary_items And false e al ar ol or is = add false (as_one true (ar (al []))) is
binary_items Or true e al ar ol or is = add true (as_one false (or (ol []))) is
binary_items Or false e al ar ol or is = or (ol is)
binary_items o w e al ar ol or is = add w (leaf_item e) is

abbrev pub collected : (is_and : Bool) → Tree Place → List Item → List Item
collected w (binary o l r) is = binary_items o w (binary o l r) (collected true l) (collected true r) (collected false l) (collected false r) is
collected w e is = add w (leaf_item e) is

-- what is said of one column in one place
abbrev pub grouped : Tree Place → Tree Place
grouped e = items_test true (collected true e [])

-- the normal form of a predicate
abbrev pub normal : Tree Place → Tree Place
normal e = grouped (pushed true e)
