-- Worked rows of the typing table: null at each place of a node's operands, and a wrong type there.
use Rattle.std.proofs.Common.{refl}
use Rattle.std.specs.Prelude.{◌≡◌, true, List, [], ◌∷◌, Option, Result, Ok, Err, Some, None, map}
use Rattle.vortex_base.specs.declared.types.Nullability.TheVariants.{Nullable, NonNullable}
use Rattle.vortex_base.specs.declared.types.Element.TheVariants as element
use Rattle.vortex_base.specs.declared.types.PType.TheVariants as ptype
use Rattle.vortex_base.specs.declared.dtype.DType.{DType}
use Rattle.vortex_base.specs.declared.dtype.DType.TheVariants as dtype
use Rattle.vortex_base.specs.declared.scalar_value.ScalarValue.TheVariants as value
use Rattle.vortex_base.specs.declared.error.BaseError.{BaseError}
use Rattle.vortex_base.specs.declared.error.BaseError.TheVariants.{TypeFault, Mismatch}
use Rattle.vortex_expr.specs.declared.scalar_fn.Operator.TheVariants as operator
use Rattle.vortex_base.specs.declared.aggregate.AggregateFnRef.TheVariants as aggregate
use Rattle.vortex_expr.specs.Patterns.Like.{plain}
use Rattle.vortex_expr.specs.Trees.Tree.{Tree, Place, literal, binary, between, is_null, is_not_null, not, like, stat}
use Rattle.vortex_base.specs.Data.States.{element_of, state_dtype}
use Rattle.vortex_expr.specs.Meanings.Typing.{type_of}
use Rattle.vortex_base.specs.Worked.Examples.{i32_type, i32_or_null, state_type}
use Rattle.vortex_expr.specs.Worked.ExpressionExamples.{bool_type, bool_or_null, closed_ends, of_type, u64_type}

abbrev Answer : Type 0
Answer = Result DType BaseError

abbrev plain_truth : Answer
plain_truth = Ok bool_type

abbrev truth_or_null : Answer
truth_or_null = Ok bool_or_null

abbrev fault : Answer
fault = Err TypeFault

abbrev text_type : DType
text_type = dtype.Utf8 NonNullable

abbrev text_or_null : DType
text_or_null = dtype.Utf8 Nullable

-- ---- two operands: neither has null, the left has, the right has, both have

abbrev pairs : (Tree Place → Tree Place → Tree Place) → (plain nullable : DType) → List Answer
pairs node p n = map type_of (node (of_type p) (of_type p) ∷ node (of_type n) (of_type p) ∷ node (of_type p) (of_type n) ∷ node (of_type n) (of_type n) ∷ [])

abbrev null_by_either : List Answer
null_by_either = plain_truth ∷ truth_or_null ∷ truth_or_null ∷ truth_or_null ∷ []

eq_row : pairs (binary operator.Eq) i32_type i32_or_null ≡ null_by_either
eq_row = refl

not_eq_row : pairs (binary operator.NotEq) i32_type i32_or_null ≡ null_by_either
not_eq_row = refl

gt_row : pairs (binary operator.Gt) i32_type i32_or_null ≡ null_by_either
gt_row = refl

gt_eq_row : pairs (binary operator.Gte) i32_type i32_or_null ≡ null_by_either
gt_eq_row = refl

lt_row : pairs (binary operator.Lt) i32_type i32_or_null ≡ null_by_either
lt_row = refl

lt_eq_row : pairs (binary operator.Lte) i32_type i32_or_null ≡ null_by_either
lt_eq_row = refl

and_row : pairs (binary operator.And) bool_type bool_or_null ≡ null_by_either
and_row = refl

or_row : pairs (binary operator.Or) bool_type bool_or_null ≡ null_by_either
or_row = refl

like_row : pairs (like plain) text_type text_or_null ≡ null_by_either
like_row = refl

-- ---- two operands: a wrong type on the left, on the right; two states

abbrev faults : (Tree Place → Tree Place → Tree Place) → (right wrong : DType) → List Answer
faults node r w = map type_of (node (of_type w) (of_type r) ∷ node (of_type r) (of_type w) ∷ node (of_type state_type) (of_type state_type) ∷ [])

abbrev all_faults : List Answer
all_faults = fault ∷ fault ∷ fault ∷ []

comparison_faults : faults (binary operator.Gt) i32_type u64_type ≡ all_faults
comparison_faults = refl

and_faults : faults (binary operator.And) bool_type i32_type ≡ all_faults
and_faults = refl

or_faults : faults (binary operator.Or) bool_type i32_type ≡ all_faults
or_faults = refl

like_faults : faults (like plain) text_type (dtype.Binary NonNullable) ≡ all_faults
like_faults = refl

-- ---- ranges: none has null, the operand has, the lower end has, the upper end has; and a wrong type at each

abbrev ranges : (plain other : DType) → List Answer
ranges p o = map type_of (between closed_ends (of_type p) (of_type p) (of_type p) ∷ between closed_ends (of_type o) (of_type p) (of_type p)
    ∷ between closed_ends (of_type p) (of_type o) (of_type p) ∷ between closed_ends (of_type p) (of_type p) (of_type o) ∷ [])

range_row : ranges i32_type i32_or_null ≡ plain_truth ∷ truth_or_null ∷ truth_or_null ∷ truth_or_null ∷ []
range_row = refl

range_faults : ranges i32_type u64_type ≡ plain_truth ∷ fault ∷ fault ∷ fault ∷ []
range_faults = refl

-- ---- one operand: without null, with it

is_null_row : map (λ s. type_of (is_null (of_type s))) (i32_type ∷ i32_or_null ∷ []) ≡ plain_truth ∷ plain_truth ∷ []
is_null_row = refl

is_not_null_row : map (λ s. type_of (is_not_null (of_type s))) (i32_type ∷ i32_or_null ∷ []) ≡ plain_truth ∷ plain_truth ∷ []
is_not_null_row = refl

not_row : map (λ s. type_of (not (of_type s))) (bool_type ∷ bool_or_null ∷ i32_type ∷ []) ≡ plain_truth ∷ truth_or_null ∷ fault ∷ []
not_row = refl

-- a placeholder may lack its answer, whatever its input
placeholder_row : map (λ f. type_of (stat f (of_type i32_type)))
    (aggregate.Min ∷ aggregate.Max ∷ aggregate.MinMax ∷ aggregate.Sum ∷ aggregate.NullCount ∷ aggregate.UncompressedSizeInBytes ∷ aggregate.AllNull ∷ aggregate.AllNonNull ∷ [])
    ≡ Ok i32_or_null ∷ Ok i32_or_null ∷ Ok state_type ∷ Ok (dtype.Primitive ptype.I64 Nullable) ∷ Ok (dtype.Primitive ptype.U64 Nullable) ∷ Ok (dtype.Primitive ptype.U64 Nullable)
    ∷ truth_or_null ∷ truth_or_null ∷ []
placeholder_row = refl

-- a literal has its own type, if its value may stand under it
literal_row : map type_of (literal (record { dtype = bool_type; value = Some (value.Bool true) }) ∷ literal (record { dtype = bool_or_null; value = None })
    ∷ literal (record { dtype = bool_type; value = None }) ∷ literal (record { dtype = i32_type; value = Some (value.Bool true) }) ∷ [])
    ≡ plain_truth ∷ truth_or_null ∷ Err Mismatch ∷ Err Mismatch ∷ []
literal_row = refl

-- ---- the values that aggregates are of: none, truths, numbers, texts, bytes, and pairs of extremes

abbrev columns : List DType
columns = dtype.Null ∷ bool_type ∷ u64_type ∷ text_or_null ∷ dtype.Binary NonNullable ∷ state_type ∷ []

elements : map element_of columns ≡ None ∷ Some element.Bool ∷ Some (element.Primitive ptype.U64) ∷ Some element.Utf8 ∷ Some element.Binary ∷ None ∷ []
elements = refl

extremes : map (state_dtype aggregate.MinMax) columns ≡ None ∷ Some (dtype.MinMaxState element.Bool Nullable) ∷ Some (dtype.MinMaxState (element.Primitive ptype.U64) Nullable)
    ∷ Some (dtype.MinMaxState element.Utf8 Nullable) ∷ Some (dtype.MinMaxState element.Binary Nullable) ∷ None ∷ []
extremes = refl

abbrev own_or_null : List (Option DType)
own_or_null = None ∷ Some bool_or_null ∷ Some (dtype.Primitive ptype.U64 Nullable) ∷ Some text_or_null ∷ Some (dtype.Binary Nullable) ∷ None ∷ []

greatest_row : map (state_dtype aggregate.Max) columns ≡ own_or_null
greatest_row = refl

least_row : map (state_dtype aggregate.Min) columns ≡ own_or_null
least_row = refl
