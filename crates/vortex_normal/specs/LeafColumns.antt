-- The column of a leaf that compares one with literals.
use Rattle.std.specs.Prelude.{Option, Some, None}
use Rattle.vortex_expr.specs.Trees.Tree.{Tree, Place, column, literal}

-- of a column and a literal
abbrev pub column_beside : (x y : Tree Place) → Option (Tree Place)
column_beside (column c) (literal d) = Some (column c)
column_beside (literal d) (column c) = Some (column c)
column_beside x y = None

-- of a column between literals
abbrev pub range_column : (x lower upper : Tree Place) → Option (Tree Place)
range_column (column c) (literal d) (literal e) = Some (column c)
range_column x l u = None
