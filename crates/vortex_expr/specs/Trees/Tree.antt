-- Expressions as trees of plain data.
use Rattle.std.specs.Prelude.{ℕ, ◌+◌, Bool, true, false, ◌||◌, ◌&&◌, not as not_b, Option, Some, None, List, [], ◌∷◌}
use Rattle.vortex_base.specs.declared.dtype.DType.{DType}
use Rattle.vortex_base.specs.Data.Scalars.{Constant}
use Rattle.vortex_expr.specs.declared.scalar_fn.Operator.{Operator}
use Rattle.vortex_expr.specs.declared.scalar_fn.BetweenOptions.{BetweenOptions}
use Rattle.vortex_expr.specs.declared.like.LikeOptions.{LikeOptions}
use Rattle.vortex_base.specs.declared.aggregate.AggregateFnRef.{AggregateFnRef}
use Rattle.vortex_expr.specs.declared.scalar_fn.ScalarFnId.{ScalarFnId}
use Rattle.vortex_expr.specs.declared.scalar_fn.ScalarFnId.TheVariants as function
use Rattle.vortex_expr.specs.declared.scalar_fn.ExprKind.{ExprKind}
use Rattle.vortex_expr.specs.declared.scalar_fn.ExprKind.TheVariants as kind

-- an expression whose columns are given by a C: by their names before they are bound, and then by their places and types
pub data Tree (C : Type 0) : Type 0 where
  column : C → Tree C
  literal : Constant → Tree C
  binary : Operator → Tree C → Tree C → Tree C
  between : BetweenOptions → (x lower upper : Tree C) → Tree C
  is_null : Tree C → Tree C
  is_not_null : Tree C → Tree C
  not : Tree C → Tree C
  like : LikeOptions → (text pattern : Tree C) → Tree C
  stat : AggregateFnRef → (input : Tree C) → Tree C
  row_count : Tree C

-- the same tree over other columns
abbrev pub map_columns : {C D : Type 0} → (C → D) → Tree C → Tree D
map_columns f (column c) = column (f c)
map_columns f (literal c) = literal c
map_columns f (binary o l r) = binary o (map_columns f l) (map_columns f r)
map_columns f (between o x l u) = between o (map_columns f x) (map_columns f l) (map_columns f u)
map_columns f (is_null x) = is_null (map_columns f x)
map_columns f (is_not_null x) = is_not_null (map_columns f x)
map_columns f (not x) = not (map_columns f x)
map_columns f (like o x p) = like o (map_columns f x) (map_columns f p)
map_columns f (stat g x) = stat g (map_columns f x)
map_columns f row_count = row_count

-- the place of a column in a row, and its type there
pub record Place : Type 0 where
  pub index : ℕ
  pub dtype : DType

abbrev pub node_count : {C : Type 0} → Tree C → ℕ
node_count (column c) = 1
node_count (literal c) = 1
node_count (binary o l r) = node_count l + node_count r + 1
node_count (between o x l u) = node_count x + node_count l + node_count u + 1
node_count (is_null x) = node_count x + 1
node_count (is_not_null x) = node_count x + 1
node_count (not x) = node_count x + 1
node_count (like o x p) = node_count x + node_count p + 1
node_count (stat f x) = node_count x + 1
node_count row_count = 1

abbrev pub kind_of : Tree Place → ExprKind
kind_of (column c) = kind.Column c.index
kind_of (literal c) = kind.Literal
kind_of (binary o l r) = kind.Binary o
kind_of (between o x l u) = kind.Between o
kind_of (is_null x) = kind.IsNull
kind_of (is_not_null x) = kind.IsNotNull
kind_of (not x) = kind.Not
kind_of (like o x p) = kind.Like o
kind_of (stat f x) = kind.Stat f
kind_of row_count = kind.RowCount

abbrev pub children : {C : Type 0} → Tree C → List (Tree C)
children (column c) = []
children (literal c) = []
children (binary o l r) = l ∷ r ∷ []
children (between o x l u) = x ∷ l ∷ u ∷ []
children (is_null x) = x ∷ []
children (is_not_null x) = x ∷ []
children (not x) = x ∷ []
children (like o x p) = x ∷ p ∷ []
children (stat f x) = x ∷ []
children row_count = []

abbrev pub literal_of : {C : Type 0} → Tree C → Option Constant
literal_of (literal c) = Some c
literal_of e = None

-- what the node applies; a column applies nothing
abbrev pub scalar_fn_of : {C : Type 0} → Tree C → Option ScalarFnId
scalar_fn_of (column c) = None
scalar_fn_of (literal c) = Some function.Literal
scalar_fn_of (binary o l r) = Some function.Binary
scalar_fn_of (between o x l u) = Some function.Between
scalar_fn_of (is_null x) = Some function.IsNull
scalar_fn_of (is_not_null x) = Some function.IsNotNull
scalar_fn_of (not x) = Some function.Not
scalar_fn_of (like o x p) = Some function.Like
scalar_fn_of (stat f x) = Some function.Stat
scalar_fn_of row_count = Some function.RowCount

-- the test passes at some node of the tree, the inputs of placeholders included
abbrev pub some_node : {C : Type 0} → (Tree C → Bool) → Tree C → Bool
some_node test (column c) = test (column c)
some_node test (literal c) = test (literal c)
some_node test (binary o l r) = test (binary o l r) || (some_node test l || some_node test r)
some_node test (between o x l u) = test (between o x l u) || (some_node test x || (some_node test l || some_node test u))
some_node test (is_null x) = test (is_null x) || some_node test x
some_node test (is_not_null x) = test (is_not_null x) || some_node test x
some_node test (not x) = test (not x) || some_node test x
some_node test (like o x p) = test (like o x p) || (some_node test x || some_node test p)
some_node test (stat f x) = test (stat f x) || some_node test x
some_node test row_count = test row_count

abbrev pub is_column_node : {C : Type 0} → Tree C → Bool
is_column_node (column c) = true
is_column_node e = false

abbrev pub is_placeholder : {C : Type 0} → Tree C → Bool
is_placeholder (stat f x) = true
is_placeholder e = false

abbrev pub is_row_count : {C : Type 0} → Tree C → Bool
is_row_count row_count = true
is_row_count e = false

abbrev pub has_column : {C : Type 0} → Tree C → Bool
has_column e = some_node is_column_node e

abbrev pub has_placeholder : {C : Type 0} → Tree C → Bool
has_placeholder e = some_node is_placeholder e

abbrev pub has_row_count : {C : Type 0} → Tree C → Bool
has_row_count e = some_node is_row_count e

-- a column stands outside the input of every placeholder
abbrev pub has_bare_column : {C : Type 0} → Tree C → Bool
has_bare_column (column c) = true
has_bare_column (literal c) = false
has_bare_column (binary o l r) = has_bare_column l || has_bare_column r
has_bare_column (between o x l u) = has_bare_column x || (has_bare_column l || has_bare_column u)
has_bare_column (is_null x) = has_bare_column x
has_bare_column (is_not_null x) = has_bare_column x
has_bare_column (not x) = has_bare_column x
has_bare_column (like o x p) = has_bare_column x || has_bare_column p
has_bare_column (stat f x) = false
has_bare_column row_count = false

-- no placeholder and no row count
abbrev pub is_plain : {C : Type 0} → Tree C → Bool
is_plain e = not_b (has_placeholder e) && not_b (has_row_count e)

-- no placeholder and no column
abbrev pub is_closed : {C : Type 0} → Tree C → Bool
is_closed e = not_b (has_placeholder e) && not_b (has_column e)

-- the test passes at each column, those in the inputs of placeholders included
abbrev pub all_columns : {C : Type 0} → (C → Bool) → Tree C → Bool
all_columns test (column c) = test c
all_columns test (literal c) = true
all_columns test (binary o l r) = all_columns test l && all_columns test r
all_columns test (between o x l u) = all_columns test x && (all_columns test l && all_columns test u)
all_columns test (is_null x) = all_columns test x
all_columns test (is_not_null x) = all_columns test x
all_columns test (not x) = all_columns test x
all_columns test (like o x p) = all_columns test x && all_columns test p
all_columns test (stat f x) = all_columns test x
all_columns test row_count = true
