-- The typing table.
use Rattle.std.specs.Prelude.{Bool, true, false, ◌||◌, ◌&&◌, not as not_b, Option, Some, None, Result, Ok, Err, if◌then◌else◌}
use Rattle.vortex_base.specs.declared.dtype.DType.{DType}
use Rattle.vortex_base.specs.declared.dtype.DType.TheVariants as dtype
use Rattle.vortex_base.specs.declared.types.PType.TheVariants as ptype
use Rattle.vortex_base.specs.declared.types.Nullability.TheVariants.{Nullable, NonNullable}
use Rattle.vortex_base.specs.declared.error.BaseError.{BaseError}
use Rattle.vortex_base.specs.declared.error.BaseError.TheVariants.{TypeFault, Unsupported, Mismatch}
use Rattle.vortex_expr.specs.declared.scalar_fn.Operator.{Operator}
use Rattle.vortex_expr.specs.declared.scalar_fn.Operator.TheVariants as operator
use Rattle.vortex_base.specs.declared.aggregate.AggregateFnRef.{AggregateFnRef}
use Rattle.vortex_base.specs.Data.Types.{is_nullable, as_nullable, eq_ignore_nullability}
use Rattle.vortex_base.specs.Data.Scalars.{is_optional_value}
use Rattle.vortex_base.specs.Data.States.{state_dtype}
use Rattle.vortex_expr.specs.Trees.Tree.{Tree, Place, column, literal, binary, between, is_null, is_not_null, not, like, stat, row_count}

-- ---- the types of nodes, from those of their children

abbrev pub is_bool : DType → Bool
is_bool (dtype.Bool n) = true
is_bool t = false

abbrev pub is_utf8 : DType → Bool
is_utf8 (dtype.Utf8 n) = true
is_utf8 t = false

abbrev pub is_state : DType → Bool
is_state (dtype.MinMaxState e n) = true
is_state t = false

-- the truth of a node that is null only where an operand may be
abbrev pub truth_type : (nullable : Bool) → DType
truth_type nullable = dtype.Bool (if nullable then Nullable else NonNullable)

-- the type, if the operands' types are as the table wants them
abbrev pub type_if : Bool → DType → Result DType BaseError
type_if b t = if b then Ok t else Err TypeFault

-- of one type, nullability aside, and no states
abbrev pub are_comparable : DType → DType → Bool
are_comparable s t = eq_ignore_nullability s t && not_b (is_state s)

abbrev pub comparison_type : DType → DType → Result DType BaseError
comparison_type l r = type_if (are_comparable l r) (truth_type (is_nullable l || is_nullable r))

abbrev pub connective_type : DType → DType → Result DType BaseError
connective_type l r = type_if (is_bool l && is_bool r) (truth_type (is_nullable l || is_nullable r))

abbrev pub binary_type : Operator → DType → DType → Result DType BaseError
binary_type operator.And l r = connective_type l r
binary_type operator.Or l r = connective_type l r
binary_type o l r = comparison_type l r

abbrev pub between_type : DType → DType → DType → Result DType BaseError
between_type x l u =
    type_if (are_comparable x l && are_comparable x u) (truth_type (is_nullable x || (is_nullable l || is_nullable u)))

abbrev pub null_test_type : DType → Result DType BaseError
null_test_type x = Ok (dtype.Bool NonNullable)

abbrev pub not_type : DType → Result DType BaseError
not_type x = type_if (is_bool x) x

abbrev pub like_type : DType → DType → Result DType BaseError
like_type x p = type_if (is_utf8 x && is_utf8 p) (truth_type (is_nullable x || is_nullable p))

-- a placeholder may lack an answer, so its type is the state's made nullable
abbrev pub placeholder_type : Option DType → Result DType BaseError
placeholder_type None = Err Unsupported
placeholder_type (Some t) = Ok (as_nullable t)

abbrev pub stat_type : AggregateFnRef → DType → Result DType BaseError
stat_type f x = placeholder_type (state_dtype f x)

abbrev pub row_count_type : DType
row_count_type = dtype.Primitive ptype.U64 NonNullable

-- ---- the type of a tree

-- what the node makes of its children's types, or the first child's fault from the left
abbrev pub with_type : {A B E : Type 0} → (A → Result B E) → Result A E → Result B E
with_type f (Ok a) = f a
with_type f (Err e) = Err e

abbrev pub with_types : {A B C E : Type 0} → (A → B → Result C E) → Result A E → Result B E → Result C E
with_types f a b = with_type (λ x. with_type (f x) b) a

-- the type of a tree whose columns' types are given, or its first fault: children before their parent, from the left
abbrev pub type_by : {C : Type 0} → (C → Result DType BaseError) → Tree C → Result DType BaseError
type_by column_type (column c) = column_type c
type_by column_type (literal c) = if is_optional_value c.value c.dtype then Ok c.dtype else Err Mismatch
type_by column_type (binary o l r) = with_types (binary_type o) (type_by column_type l) (type_by column_type r)
type_by column_type (between o x l u) = with_type (λ t. with_types (between_type t) (type_by column_type l) (type_by column_type u)) (type_by column_type x)
type_by column_type (is_null x) = with_type null_test_type (type_by column_type x)
type_by column_type (is_not_null x) = with_type null_test_type (type_by column_type x)
type_by column_type (not x) = with_type not_type (type_by column_type x)
type_by column_type (like o x p) = with_types like_type (type_by column_type x) (type_by column_type p)
type_by column_type (stat f x) = with_type (stat_type f) (type_by column_type x)
type_by column_type row_count = Ok row_count_type

-- the type of a typed tree; each node of one that has a type meets the table
abbrev pub type_of : Tree Place → Result DType BaseError
type_of e = type_by (λ c. Ok c.dtype) e
