-- Predicates over one column, and what their normal forms are.
use Rattle.std.specs.Prelude.{◌≡◌, ◌⊎◌, Bool, true, false, not as not_b, ◌&&◌, ◌||◌, List, [], Some, IsTrue, slice_get}
use Rattle.std.specs.Option.{is_some}
use Rattle.vortex_base.specs.Data.Columns.{cell_value}
use Rattle.vortex_base.specs.Data.Scalars.{Constant}
use Rattle.vortex_base.specs.Data.Values.{is_value}
use Rattle.vortex_expr.specs.Meanings.Meaning.{satisfies}
use Rattle.vortex_expr.specs.Trees.Tree.{Tree, Place, column, literal, binary, between, is_null, is_not_null, not, like, stat, row_count, has_bare_column, is_plain, some_node}
use Rattle.vortex_expr.specs.Trees.TreeEq.{place_eq}
use Rattle.vortex_base.specs.declared.scalar_value.ScalarValue.{ScalarValue}
use Rattle.vortex_expr.specs.declared.scalar_fn.Operator.TheVariants.{And, Or}
use Rattle.vortex_rewrite.specs.Rewriting.Predicates.{is_predicate}
use Rattle.vortex_rewrite.specs.Rewriting.ReadOnce.{are_apart, columns_of, has_closed_end, has_disjoint_ands, is_number_type, is_simple_binary}
use Rattle.vortex_normal.specs.Groups.{normal}
use Rattle.vortex_normal.specs.Pushed.{as_comparisons, or_not}

-- an expression without a column and without placeholders, as a literal is
abbrev pub is_constant : Tree Place → Bool
is_constant e = not_b (has_bare_column e) && is_plain e

-- the column, or a constant
abbrev pub is_operand_over : Place → Tree Place → Bool
is_operand_over c (column d) = place_eq c d
is_operand_over c e = is_constant e

-- a tree of AND, OR and NOT over comparisons, ranges and null tests of the column and constants, LIKEs of it that comparisons say, the column itself, and literals
abbrev pub is_over : Place → Tree Place → Bool
is_over c (column d) = place_eq c d
is_over c (literal v) = true
is_over c (binary o l r) = is_simple_binary o (is_over c l && is_over c r) (is_operand_over c l && is_operand_over c r)
is_over c (between o x l u) = is_operand_over c x && (is_operand_over c l && is_operand_over c u)
is_over c (is_null x) = is_operand_over c x
is_over c (is_not_null x) = is_operand_over c x
is_over c (not x) = is_over c x
is_over c (like o x p) = is_some (as_comparisons o x p) && is_operand_over c x
is_over c (stat f x) = false
is_over c row_count = false

-- neither null satisfies it nor every value of the column
pub record IsSelective (c : Place) (p : Tree Place) : Type 0 where
  pub row : List Constant
  pub value : ScalarValue
  pub cell : cell_value (slice_get row c.index) ≡ Some value
  pub of_type : is_value value c.dtype ≡ true
  pub refused : satisfies p row 0 ≡ false
  pub null_refused : satisfies p [] 0 ≡ false

-- a range that lets the value of neither end through
abbrev pub is_open_range : Tree Place → Bool
is_open_range (between o x l u) = not_b (has_closed_end o)
is_open_range e = false

-- the column's values are whole numbers, or what the predicate says of them comes to no range that is open at both ends
abbrev pub are_ends_seen : Place → Tree Place → Bool
are_ends_seen c p = is_number_type c.dtype || not_b (some_node is_open_range (normal p))

-- the normal form of a selective predicate over one column is one that bounds decide
abbrev pub OneColumnIsApart : Type 0
OneColumnIsApart = (c : Place) (p : Tree Place) → IsTrue (is_predicate p) → IsTrue (is_over c p) → IsTrue (are_ends_seen c p) → IsSelective c p → IsTrue (has_disjoint_ands (normal p))

-- ---- joinings of predicates over different columns

-- over one column, and as it is or under NOT neither null satisfies it nor every value
abbrev pub IsOneOf : (wanted : Bool) → Tree Place → Type 0
IsOneOf w p = (c : Place) × IsTrue (is_over c p) × IsTrue (are_ends_seen c (or_not w p)) × IsSelective c (or_not w p)

-- a tree of AND, OR and NOT over such predicates, where the sides of each AND and OR have no column in common
abbrev pub IsJoining : (wanted : Bool) → Tree Place → Type 0
IsJoining w (binary And l r) = IsOneOf w (binary And l r) ⊎ ((IsJoining w l × IsJoining w r) × IsTrue (are_apart (columns_of l) (columns_of r)))
IsJoining w (binary Or l r) = IsOneOf w (binary Or l r) ⊎ ((IsJoining w l × IsJoining w r) × IsTrue (are_apart (columns_of l) (columns_of r)))
IsJoining w (not x) = IsJoining (not_b w) x
IsJoining w e = IsOneOf w e

-- the normal form of such a joining is one that bounds decide
abbrev pub JoiningsAreApart : Type 0
JoiningsAreApart = (p : Tree Place) → IsTrue (is_predicate p) → IsTrue (is_plain p) → IsJoining true p → IsTrue (has_disjoint_ands (normal p))
