-- Binders that answer what they were told: entries of an input, an aggregate of it, and the value of that.
use Rattle.std.specs.Prelude.{Bool, ◌&&◌, List, [], ◌∷◌, Option, Some, None, Result, Ok, Err, IsTrue, option_map, if◌then◌else◌}
use Rattle.std.specs.List.{AllByRecursion}
use Rattle.vortex_base.specs.declared.aggregate.AggregateFnRef.{AggregateFnRef}
use Rattle.vortex_base.specs.declared.dtype.DType.{DType}
use Rattle.vortex_base.specs.declared.error.BaseError.{BaseError}
use Rattle.vortex_base.specs.declared.scalar_value.ScalarValue.{ScalarValue}
use Rattle.vortex_base.specs.Data.Columns.{ColumnData}
use Rattle.vortex_base.specs.Data.Scalars.{Constant, IsConstant}
use Rattle.vortex_expr.specs.Trees.Tree.{Tree, Place, literal, stat}
use Rattle.vortex_expr.specs.Trees.TreeEq.{aggregate_eq, tree_eq}
use Rattle.vortex_base.specs.Data.Types.{eq_ignore_nullability}
use Rattle.vortex_expr.specs.Meanings.Typing.{type_of}
use Rattle.vortex_examples.specs.declared.known.Entry.{Entry}
use Rattle.vortex_prune.specs.Binding.Binders.{BinderAnswer}
use Rattle.vortex_rewrite.specs.Facts.{IsFact, IsHonest, is_over, meanings, size_of}
use Rattle.vortex_rewrite.specs.Rewriting.Proof.{Assignment}

-- the entry is of this aggregate and this input, and its value of this type, nullability aside
abbrev pub is_for : AggregateFnRef → Tree Place → DType → Entry → Bool
is_for f x t e = aggregate_eq e.aggregate f && (tree_eq e.input x && eq_ignore_nullability e.value.dtype t)

-- the value of the first such entry
abbrev pub found : AggregateFnRef → Tree Place → DType → List Entry → Option Constant
found f x t [] = None
found f x t (e ∷ es) = if is_for f x t e then Some e.value else found f x t es

abbrev pub known_answer : List Entry → BinderAnswer
known_answer es f x t = option_map literal (found f x t es)

abbrev pub value_found : Option Constant → Option ScalarValue
value_found None = None
value_found (Some c) = c.value

abbrev pub known_at : List Entry → AggregateFnRef → Tree Place → Result DType BaseError → Option ScalarValue
known_at es f x (Ok t) = value_found (found f x t es)
known_at es f x (Err fault) = None

-- the values of the entries, at placeholders of their types
abbrev pub known_values : List Entry → Assignment
known_values es f x = known_at es f x (type_of (stat f x))

-- what the entry says is a fact of the columns
pub record IsKnownOf (cs : List ColumnData) (e : Entry) : Type 0 where
  pub over : IsTrue (is_over e.input cs)
  pub fits : IsConstant e.value
  pub fact : IsFact e.aggregate e.value.value (meanings e.input cs) (size_of e.input cs)

-- entries that are facts answer honestly
abbrev pub KnownFactsAreHonest : Type 0
KnownFactsAreHonest = (es : List Entry) (cs : List ColumnData) → AllByRecursion (IsKnownOf cs) es → IsHonest (known_values es) cs
