-- Predicates that bounds decide, and the boxes of values that they are asked over.
use Rattle.std.specs.Prelude.{◌≡◌, ◌==◌, ℕ, Bool, true, false, not as not_b, ◌&&◌, ◌||◌, List, [], ◌∷◌, ◌++◌, Option, Some, IsTrue, slice_get}
use Rattle.std.specs.List.{AllByRecursion}
use Rattle.std.specs.Option.{is_some}
use Rattle.vortex_expr.specs.declared.scalar_fn.BetweenOptions.{BetweenOptions}
use Rattle.vortex_base.specs.declared.dtype.DType.{DType}
use Rattle.vortex_base.specs.declared.dtype.DType.TheVariants as dtype
use Rattle.vortex_expr.specs.declared.scalar_fn.Operator.{Operator}
use Rattle.vortex_expr.specs.declared.scalar_fn.Operator.TheVariants.{And, Or}
use Rattle.vortex_base.specs.declared.scalar_value.ScalarValue.{ScalarValue}
use Rattle.vortex_base.specs.declared.scalar_value.ScalarValue.TheVariants as value
use Rattle.vortex_base.specs.Data.Columns.{cell_value}
use Rattle.vortex_expr.specs.Meanings.Meaning.{satisfies}
use Rattle.vortex_base.specs.Data.Scalars.{Constant}
use Rattle.vortex_expr.specs.Trees.Tree.{Tree, Place, column, literal, binary, between, is_null, is_not_null, not, like, stat, row_count}
use Rattle.vortex_base.specs.Data.Values.{is_value, value_cmp}
use Rattle.vortex_stats.specs.Bounds.Order.{AtMost}
use Rattle.vortex_rewrite.specs.Rewriting.Falsifiers.{is_closed_end}

-- ---- read-once predicates

-- the columns of an expression from the left, each as often as it occurs; the inputs of placeholders are not read
abbrev pub columns_of : Tree Place → List Place
columns_of (column c) = c ∷ []
columns_of (literal c) = []
columns_of (binary o l r) = columns_of l ++ columns_of r
columns_of (between o x l u) = columns_of x ++ (columns_of l ++ columns_of u)
columns_of (is_null x) = columns_of x
columns_of (is_not_null x) = columns_of x
columns_of (not x) = columns_of x
columns_of (like o x p) = columns_of x ++ columns_of p
columns_of (stat f x) = []
columns_of row_count = []

abbrev pub has_index : ℕ → List Place → Bool
has_index i [] = false
has_index i (c ∷ cs) = (i == c.index) || has_index i cs

-- no column occurs twice
abbrev pub are_distinct : List Place → Bool
are_distinct [] = true
are_distinct (c ∷ cs) = not_b (has_index c.index cs) && are_distinct cs

-- a column, or a literal that is not null
abbrev pub is_operand : Tree Place → Bool
is_operand (column c) = true
is_operand (literal c) = is_some c.value
is_operand e = false

-- a truth that is not null
abbrev pub is_truth : Option ScalarValue → Bool
is_truth (Some (value.Bool b)) = true
is_truth v = false

-- a type of whole numbers
abbrev pub is_number_type : DType → Bool
is_number_type (dtype.Primitive p n) = true
is_number_type t = false

-- one end at least lets its own value through
abbrev pub has_closed_end : BetweenOptions → Bool
has_closed_end o = is_closed_end o.lower_strict || is_closed_end o.upper_strict

-- a column between two literals that aren't null; both ends may be strict only for whole numbers
abbrev pub is_range : BetweenOptions → (x lower upper : Tree Place) → Bool
is_range o (column c) (literal d) (literal e) = (is_number_type c.dtype || has_closed_end o) && (is_some d.value && is_some e.value)
is_range o x l u = false

-- a connective of such predicates, or a comparison of operands
abbrev pub is_simple_binary : Operator → (sides operands : Bool) → Bool
is_simple_binary And sides operands = sides
is_simple_binary Or sides operands = sides
is_simple_binary o sides operands = operands

-- a tree of AND and OR over comparisons of columns and literals, truths, and ranges of a column
abbrev pub is_simple : Tree Place → Bool
is_simple (column c) = false
is_simple (literal c) = is_truth c.value
is_simple (binary o l r) = is_simple_binary o (is_simple l && is_simple r) (is_operand l && is_operand r)
is_simple (between o x l u) = is_range o x l u
is_simple (is_null x) = false
is_simple (is_not_null x) = false
is_simple (not x) = false
is_simple (like o x p) = false
is_simple (stat f x) = false
is_simple row_count = false

abbrev pub is_read_once : Tree Place → Bool
is_read_once p = is_simple p && are_distinct (columns_of p)

-- ---- predicates whose ANDs are apart

-- no column of the first list is one of the second
abbrev pub are_apart : (cs ds : List Place) → Bool
are_apart [] ds = true
are_apart (c ∷ cs) ds = not_b (has_index c.index ds) && are_apart cs ds

-- the sides of an AND have no column in common, those of an OR may share any, and a comparison has no column twice
abbrev pub is_binary_apart : Operator → (left right : List Place) → (sides : Bool) → Bool
is_binary_apart And left right sides = are_apart left right && sides
is_binary_apart Or left right sides = sides
is_binary_apart o left right sides = are_distinct (left ++ right)

-- so at each node
abbrev pub are_sides_apart : Tree Place → Bool
are_sides_apart (binary o l r) = is_binary_apart o (columns_of l) (columns_of r) (are_sides_apart l && are_sides_apart r)
are_sides_apart e = are_distinct (columns_of e)

abbrev pub has_disjoint_ands : Tree Place → Bool
has_disjoint_ands p = is_simple p && are_sides_apart p

-- ---- boxes

-- a low and a high value for each place
pub record Box : Type 0 where
  pub low : ℕ → ScalarValue
  pub high : ℕ → ScalarValue

-- low is at most high for each column of the predicate
abbrev pub IsInOrder : Tree Place → Box → Type 0
IsInOrder p box = AllByRecursion (λ c. AtMost value_cmp (box.low c.index) (box.high c.index)) (columns_of p)

-- the row has a value of the column's type, from its low to its high
pub record IsWithin (box : Box) (row : List Constant) (c : Place) : Type 0 where
  pub chosen : ScalarValue
  pub cell : cell_value (slice_get row c.index) ≡ Some chosen
  pub of_type : is_value chosen c.dtype ≡ true
  pub above_low : AtMost value_cmp (box.low c.index) chosen
  pub below_high : AtMost value_cmp chosen (box.high c.index)

-- some choice of one value within the box for each column of the predicate makes it true
abbrev pub IsSatisfiable : Tree Place → Box → (n : ℕ) → Type 0
IsSatisfiable p box n = (row : List Constant) × AllByRecursion (IsWithin box row) (columns_of p) × IsTrue (satisfies p row n)
