-- The items of a chain, found by their columns.
use Rattle.std.specs.Prelude.{◌≡◌, ◌<◌, ℕ, true, List, Option, Some, None, length, slice_index_or}
use Rattle.std.specs.BTreeMap.{BTreeMap, get}
use Rattle.std.specs.List.{position}
use Rattle.std.specs.Ordering.{nat_cmp}
use Rattle.vortex_expr.specs.Trees.Tree.{Place}
use Rattle.vortex_normal.specs.declared.groups.Item.{Item as Kept}
use Rattle.vortex_normal.specs.Groups.{is_of, item_of}

-- the item of a column, if there is one
abbrev pub item_at : Place → List Kept → Option ℕ
item_at c items = position (λ item. is_of c (item_of item)) items

-- none is of the column, or one is there that is its item if it is of the column's type
abbrev pub Tells : Place → List Kept → Option ℕ → Type 0
Tells c items None = item_at c items ≡ None
Tells c items (Some n) = (n < length items) × ((d : Kept) → is_of c (item_of (slice_index_or items n d)) ≡ true → item_at c items ≡ Some n)

-- the map tells so of each column by its place
abbrev pub IsIndexOf : List Kept → BTreeMap ℕ ℕ → Type 0
IsIndexOf items places = (c : Place) → Tells c items (get nat_cmp places c.index)
