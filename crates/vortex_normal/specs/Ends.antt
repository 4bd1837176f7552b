-- A comparison of a column with a value that no value of the column's type stands below, or above, and one with a truth.
use Rattle.std.specs.Prelude.{Bool, true, false, not as not_b, ◌==◌, length, Option, Some, None, option_map, int_lt}
use Rattle.std.specs.declared.cmp.Ordering.TheVariants.{Less, Equal, Greater}
use Rattle.vortex_base.specs.Data.Values.{greatest, least, number_of, ptype_of, value_cmp}
use Rattle.vortex_base.specs.declared.dtype.DType.{DType}
use Rattle.vortex_base.specs.declared.dtype.DType.TheVariants as dtype
use Rattle.vortex_base.specs.declared.scalar_value.ScalarValue.{ScalarValue}
use Rattle.vortex_base.specs.declared.scalar_value.ScalarValue.TheVariants as value
use Rattle.vortex_expr.specs.Meanings.Meaning.{holds}
use Rattle.vortex_expr.specs.Trees.Tree.{Tree, Place, column, literal, binary, is_not_null}
use Rattle.vortex_expr.specs.declared.scalar_fn.Operator.{Operator}
use Rattle.vortex_expr.specs.declared.scalar_fn.Operator.TheVariants.{Eq, And, Or}
use Rattle.vortex_rewrite.specs.Rewriting.Falsifiers.{bool_literal}

-- ---- the ends of a type

-- no value of its type is below it
abbrev pub is_least : ScalarValue → Bool
is_least (value.Bool b) = not_b b
is_least (value.Primitive p) = not_b (int_lt (least (ptype_of p)) (number_of p))
is_least (value.Utf8 bs) = length bs == 0
is_least (value.Binary bs) = length bs == 0

-- none is above it; a text has another above
abbrev pub is_greatest : ScalarValue → Bool
is_greatest (value.Bool b) = b
is_greatest (value.Primitive p) = not_b (int_lt (number_of p) (greatest (ptype_of p)))
is_greatest (value.Utf8 bs) = false
is_greatest (value.Binary bs) = false

-- ---- what a comparison with an end says of each value

-- the one truth of two orders
abbrev pub of_both : (a b : Bool) → Option Bool
of_both true true = Some true
of_both false false = Some false
of_both a b = None

-- of each value, which stands to the one compared with in the second order or the last, or in the first or the second
abbrev pub from_below : Operator → Option Bool
from_below o = of_both (holds o Equal) (holds o Greater)

abbrev pub from_above : Operator → Option Bool
from_above o = of_both (holds o Less) (holds o Equal)

abbrev pub by_ends : (least greatest : Bool) → (of_least of_greatest : Option Bool) → Option Bool
by_ends true g a b = a
by_ends false true a b = b
by_ends false false a b = None

-- the truth of a comparison with the value, if it is the same of each value; the column stands first or the value does
abbrev pub by_end : (column_first : Bool) → Operator → ScalarValue → Option Bool
by_end true o v = by_ends (is_least v) (is_greatest v) (from_below o) (from_above o)
by_end false o v = by_ends (is_least v) (is_greatest v) (from_above o) (from_below o)

abbrev pub in_order : (column_first : Bool) → Operator → (a b : ScalarValue) → Bool
in_order true o a b = holds o (value_cmp a b)
in_order false o a b = holds o (value_cmp b a)

-- ---- as predicates

module _ (c : Place) where
  -- there is a value, or never
  abbrev pub each_value : Bool → Tree Place
  each_value true = is_not_null (column c)
  each_value false = bool_literal false

  abbrev pub is_the_truth : Bool → Tree Place
  is_the_truth b = binary Eq (column c) (literal (record { dtype = c.dtype; value = Some (value.Bool b) }))

  -- the column's truth is one of those that are let through
  abbrev pub of_truths : (when_false when_true : Bool) → Tree Place
  of_truths false false = bool_literal false
  of_truths true false = is_the_truth false
  of_truths false true = is_the_truth true
  of_truths true true = is_not_null (column c)

  abbrev pub of_type : DType → (when_false when_true : Bool) → Option (Tree Place)
  of_type (dtype.Bool n) f t = Some (of_truths f t)
  of_type d f t = None

  -- the column beside a value, where their comparison says less than it seems to, or a truth
  abbrev pub at_value : (column_first : Bool) → Operator → Option ScalarValue → Option (Tree Place)
  at_value first o None = None
  at_value first o (Some (value.Bool b)) = of_type c.dtype (in_order first o (value.Bool false) (value.Bool b)) (in_order first o (value.Bool true) (value.Bool b))
  at_value first o (Some v) = option_map each_value (by_end first o v)

abbrev pub by_value : Operator → (l r : Tree Place) → Option (Tree Place)
by_value o (column c) (literal d) = at_value c true o d.value
by_value o (literal d) (column c) = at_value c false o d.value
by_value o l r = None

abbrev pub of_comparison : Operator → (known : Option (Tree Place)) → Option (Tree Place)
of_comparison And e = None
of_comparison Or e = None
of_comparison o e = e

abbrev pub unless_known : Option (Tree Place) → Tree Place → Tree Place
unless_known (Some e) f = e
unless_known None f = f

-- a comparison, by the ends of its column's type where the other operand is a value
abbrev pub ended : Operator → (l r : Tree Place) → Tree Place
ended o l r = unless_known (of_comparison o (by_value o l r)) (binary o l r)
