-- Tests of a row: whether a truth of three values is the wanted one.
use Rattle.std.specs.Prelude.{◌≡◌, ℕ, Bool, true, false, not as not_b, List, Option, Some, None, option_map}
use Rattle.vortex_expr.specs.declared.bound_expression.row_test.Leaf.{Leaf}
use Rattle.vortex_expr.specs.declared.bound_expression.row_test.Leaf.TheVariants.{Of, Inner}
use Rattle.vortex_expr.specs.Meanings.Meaning.{meaning}
use Rattle.vortex_base.specs.Data.ArrayData.{value_of}
use Rattle.vortex_base.specs.Data.Scalars.{Constant}
use Rattle.vortex_expr.specs.Trees.Tree.{Tree, Place, column, literal}

-- the truth is known, and is this one
abbrev pub is_wanted : Bool → Option Bool → Bool
is_wanted w None = false
is_wanted true (Some b) = b
is_wanted false (Some b) = not_b b

-- a column or a literal
abbrev pub is_leaf : Tree Place → Bool
is_leaf (column c) = true
is_leaf (literal c) = true
is_leaf e = false

-- a leaf lends its value on the row, and any other node is told to be none
abbrev pub Lends : Leaf → Tree Place → (row : List Constant) → (n : ℕ) → Type 0
Lends (Of v) e row n = option_map value_of v ≡ meaning e row n
Lends Inner e row n = is_leaf e ≡ false
