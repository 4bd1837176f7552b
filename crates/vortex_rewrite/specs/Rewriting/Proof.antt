-- The value of a proof: an expression over placeholders, each of which has an answer.
use Rattle.std.specs.Prelude.{ℕ, Bool, false, not as not_b, Option, Some, None, is_none, if◌then◌else◌}
use Rattle.vortex_base.specs.declared.aggregate.AggregateFnRef.{AggregateFnRef}
use Rattle.vortex_base.specs.declared.pvalue.PValue.TheVariants as number
use Rattle.vortex_base.specs.declared.scalar_value.ScalarValue.{ScalarValue}
use Rattle.vortex_base.specs.declared.scalar_value.ScalarValue.TheVariants as value
use Rattle.vortex_expr.specs.Meanings.Meaning.{applied, is_true, liked, opposite, truth, truth_value, within}
use Rattle.vortex_expr.specs.Trees.Tree.{Tree, Place, column, literal, binary, between, is_null, is_not_null, not, like, stat, row_count, has_bare_column}

-- an optional value for each placeholder, given by its aggregate and its input; one without an answer is null
abbrev pub Assignment : Type 0
Assignment = AggregateFnRef → Tree Place → Option ScalarValue

-- the optional value of an expression whose placeholders are read in A, n being the row count; a column outside them is null
abbrev pub value_under : Assignment → (n : ℕ) → Tree Place → Option ScalarValue
value_under A n (column c) = None
value_under A n (literal c) = c.value
value_under A n (binary o l r) = truth_value (applied o (value_under A n l) (value_under A n r))
value_under A n (between o x l u) = truth_value (within o (value_under A n x) (value_under A n l) (value_under A n u))
value_under A n (is_null x) = Some (value.Bool (is_none (value_under A n x)))
value_under A n (is_not_null x) = Some (value.Bool (not_b (is_none (value_under A n x))))
value_under A n (not x) = truth_value (opposite (truth (value_under A n x)))
value_under A n (like o x p) = truth_value (liked o (value_under A n x) (value_under A n p))
value_under A n (stat f x) = A f x
value_under A n row_count = Some (value.Primitive (number.U64 n))

-- the value of a proof; one with a column outside its placeholders has none
abbrev pub proof : Tree Place → Assignment → (n : ℕ) → Option ScalarValue
proof e A n = if has_bare_column e then None else value_under A n e

-- the proof is true
abbrev pub proves : Tree Place → Assignment → (n : ℕ) → Bool
proves e A n = is_true (proof e A n)

-- the proof, if there is one, has a column outside its placeholders
abbrev pub is_open : Option (Tree Place) → Bool
is_open None = false
is_open (Some e) = has_bare_column e
