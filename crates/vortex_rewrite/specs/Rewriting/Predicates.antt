-- Which expressions are of type Bool, and which operators are connectives of such.
use Rattle.std.specs.Prelude.{Bool, true, false, Result, Ok, Err}
use Rattle.vortex_base.specs.declared.aggregate.AggregateFnRef.{AggregateFnRef}
use Rattle.vortex_base.specs.declared.aggregate.AggregateFnRef.TheVariants.{Max, Min, Sum, NullCount, NanCount, UncompressedSizeInBytes, AllNull, AllNonNull, MinMax}
use Rattle.vortex_base.specs.declared.dtype.DType.{DType}
use Rattle.vortex_base.specs.declared.error.BaseError.{BaseError}
use Rattle.vortex_expr.specs.declared.scalar_fn.Operator.{Operator}
use Rattle.vortex_expr.specs.declared.scalar_fn.Operator.TheVariants.{Eq, NotEq, Gt, Gte, Lt, Lte, And, Or}
use Rattle.vortex_expr.specs.Trees.Tree.{Tree, Place}
use Rattle.vortex_expr.specs.Meanings.Typing.{is_bool, is_utf8, type_of}

abbrev pub has_type : (DType → Bool) → Result DType BaseError → Bool
has_type test (Ok t) = test t
has_type test (Err fault) = false

-- the expression has a type, which is Bool
abbrev pub is_predicate : Tree Place → Bool
is_predicate e = has_type is_bool (type_of e)

-- the expression has a type, which is Utf8
abbrev pub is_text : Tree Place → Bool
is_text e = has_type is_utf8 (type_of e)

abbrev pub is_connective : Operator → Bool
is_connective Eq = false
is_connective NotEq = false
is_connective Gt = false
is_connective Gte = false
is_connective Lt = false
is_connective Lte = false
is_connective And = true
is_connective Or = true

-- the least or the greatest value is asked for
abbrev pub is_extreme : AggregateFnRef → Bool
is_extreme Max = true
is_extreme Min = true
is_extreme Sum = false
is_extreme NullCount = false
is_extreme NanCount = false
is_extreme UncompressedSizeInBytes = false
is_extreme AllNull = false
is_extreme AllNonNull = false
is_extreme MinMax = false

-- the aggregate's state is a truth
abbrev pub is_truth_aggregate : AggregateFnRef → Bool
is_truth_aggregate Max = false
is_truth_aggregate Min = false
is_truth_aggregate Sum = false
is_truth_aggregate NullCount = false
is_truth_aggregate NanCount = false
is_truth_aggregate UncompressedSizeInBytes = false
is_truth_aggregate AllNull = true
is_truth_aggregate AllNonNull = true
is_truth_aggregate MinMax = false
