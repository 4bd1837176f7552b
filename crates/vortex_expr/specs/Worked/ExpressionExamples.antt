-- Worked cases of the definitions of LIKE, typing, binding and meaning.
use Rattle.std.specs.Prelude.{◌≡◌, ℕ, Bool, true, false, List, [], ◌∷◌, Option, Some, None, Ok, Err, pos, codes}
use Rattle.vortex_base.specs.declared.types.Nullability.TheVariants.{Nullable, NonNullable}
use Rattle.vortex_base.specs.declared.types.PType.TheVariants as ptype
use Rattle.vortex_base.specs.declared.dtype.DType.{DType}
use Rattle.vortex_base.specs.declared.dtype.DType.TheVariants as dtype
use Rattle.vortex_base.specs.declared.pvalue.PValue.TheVariants as number
use Rattle.vortex_base.specs.declared.scalar_value.ScalarValue.{ScalarValue}
use Rattle.vortex_base.specs.declared.scalar_value.ScalarValue.TheVariants as value
use Rattle.vortex_base.specs.declared.error.BaseError.TheVariants.{UnknownColumn, TypeFault, Unsupported, Placeholder, RowShape}
use Rattle.vortex_expr.specs.declared.scalar_fn.Connective.TheVariants as connective
use Rattle.vortex_expr.specs.declared.scalar_fn.Operator.TheVariants as operator
use Rattle.vortex_expr.specs.declared.scalar_fn.BetweenOptions.{BetweenOptions}
use Rattle.vortex_expr.specs.declared.scalar_fn.StrictComparison.TheVariants.{Strict, NonStrict}
use Rattle.vortex_base.specs.declared.aggregate.AggregateFnRef.TheVariants as aggregate
use Rattle.vortex_expr.specs.declared.like.Item.TheVariants as item
use Rattle.vortex_base.specs.Data.Scalars.{Constant}
use Rattle.vortex_expr.specs.Patterns.Like.{items, like_text, matches, plain}
use Rattle.vortex_expr.specs.Trees.Connectives.{for_truth, is_and, operator_of}
use Rattle.vortex_expr.specs.Trees.Tree.{Tree, Place, column, literal, binary, between, is_null, is_not_null, not, like, stat, row_count, is_plain, is_closed}
use Rattle.vortex_base.specs.Data.States.{state_dtype}
use Rattle.vortex_expr.specs.Meanings.Typing.{type_of}
use Rattle.vortex_expr.specs.Meanings.Binding.{Name, bound_in}
use Rattle.vortex_expr.specs.Meanings.Fitting.{fits_scope}
use Rattle.vortex_expr.specs.Meanings.Meaning.{meaning, can_evaluate}
use Rattle.vortex_base.specs.Worked.Examples.{i32_type, i32_or_null, i32_value, state_type, text_a, text_e_acute, column_a}

-- the readings of patterns, and what they match
pub record LikeExamples : Type 0 where
  pub read : items (codes "a%_") ≡ item.Char 97 ∷ item.AnyRun ∷ item.AnyChar ∷ []
  pub read_escapes : items (92 ∷ 37 ∷ 92 ∷ 92 ∷ 92 ∷ 97 ∷ []) ≡ item.Char 37 ∷ item.Char 92 ∷ item.Char 97 ∷ []
  pub read_lone_escape : items (97 ∷ 92 ∷ []) ≡ item.Char 97 ∷ item.Char 92 ∷ []
  pub run_and_one : like_text false (codes "a%b_") (codes "axxbc") ≡ true
  pub run_goes_back : like_text false (codes "%ab") (codes "aab") ≡ true
  pub escaped_run : like_text false (92 ∷ 37 ∷ []) (codes "%") ≡ true
  pub escaped_run_is_literal : like_text false (92 ∷ 37 ∷ []) (codes "x") ≡ false
  pub lone_escape : like_text false (97 ∷ 92 ∷ []) (97 ∷ 92 ∷ []) ≡ true
  pub one_is_not_none : like_text false (codes "_") [] ≡ false
  pub run_may_be_empty : like_text false (codes "%") [] ≡ true
  pub empty_matches_empty : like_text false [] [] ≡ true
  pub empty_matches_no_more : like_text false [] text_a ≡ false
  pub one_of_two_bytes : like_text false (codes "_") text_e_acute ≡ true
  pub not_two_of_two_bytes : like_text false (codes "__") text_e_acute ≡ false
  pub ascii_case : like_text true (codes "PRE%") (codes "prefix") ≡ true
  pub ascii_case_of_the_text : like_text true (codes "pre%") (codes "PreFIX") ≡ true
  pub case_regarded : like_text false (codes "PRE%") (codes "prefix") ≡ false
  pub other_case : like_text true (195 ∷ 137 ∷ []) text_e_acute ≡ false
  pub case_of_the_text_regarded : like_text false (codes "pre%") (codes "PreFIX") ≡ false
  pub negated : matches (record { negated = true; case_insensitive = false }) (codes "a%") (codes "b") ≡ true

-- what joins a chain
pub record ConnectiveExamples : Type 0 where
  pub and : is_and connective.And ≡ true
  pub or : is_and connective.Or ≡ false
  pub operator_of_and : operator_of true ≡ operator.And
  pub operator_of_or : operator_of false ≡ operator.Or
  pub and_for_true : for_truth true true ≡ true
  pub and_for_false : for_truth true false ≡ false
  pub or_for_true : for_truth false true ≡ false
  pub or_for_false : for_truth false false ≡ true

abbrev pub bool_type : DType
bool_type = dtype.Bool NonNullable

abbrev pub bool_or_null : DType
bool_or_null = dtype.Bool Nullable

abbrev pub u64_type : DType
u64_type = dtype.Primitive ptype.U64 NonNullable

abbrev pub of_type : DType → Tree Place
of_type t = column (record { index = 0; dtype = t })

abbrev pub closed_ends : BetweenOptions
closed_ends = record { lower_strict = NonStrict; upper_strict = NonStrict }

abbrev pub compared : DType → DType → Tree Place
compared s t = binary operator.Lte (of_type s) (of_type t)

abbrev pub joined : DType → DType → Tree Place
joined s t = binary operator.And (of_type s) (of_type t)

abbrev pub ranged : DType → DType → DType → Tree Place
ranged s t u = between closed_ends (of_type s) (of_type t) (of_type u)

-- the rows of the typing table
pub record TypingExamples : Type 0 where
  pub comparison : type_of (compared i32_type i32_type) ≡ Ok bool_type
  pub comparison_with_null : type_of (compared i32_type i32_or_null) ≡ Ok bool_or_null
  pub comparison_of_nulls : type_of (compared dtype.Null dtype.Null) ≡ Ok bool_or_null
  pub comparison_of_widths : type_of (compared i32_type u64_type) ≡ Err TypeFault
  pub comparison_of_states : type_of (compared state_type state_type) ≡ Err TypeFault
  pub conjunction : type_of (joined bool_type bool_type) ≡ Ok bool_type
  pub conjunction_with_null : type_of (joined bool_or_null bool_type) ≡ Ok bool_or_null
  pub conjunction_of_numbers : type_of (joined i32_type bool_type) ≡ Err TypeFault
  pub disjunction_with_null : type_of (binary operator.Or (of_type bool_type) (of_type bool_or_null)) ≡ Ok bool_or_null
  pub range : type_of (ranged i32_type i32_type i32_type) ≡ Ok bool_type
  pub range_with_null : type_of (ranged i32_type i32_type i32_or_null) ≡ Ok bool_or_null
  pub range_of_widths : type_of (ranged i32_type i32_type u64_type) ≡ Err TypeFault
  pub range_of_states : type_of (ranged state_type state_type state_type) ≡ Err TypeFault
  pub null_test : type_of (is_null (of_type i32_or_null)) ≡ Ok bool_type
  pub null_test_of_state : type_of (is_not_null (of_type state_type)) ≡ Ok bool_type
  pub negation : type_of (not (of_type bool_or_null)) ≡ Ok bool_or_null
  pub negation_of_number : type_of (not (of_type i32_type)) ≡ Err TypeFault
  pub pattern : type_of (like plain (of_type (dtype.Utf8 NonNullable)) (of_type (dtype.Utf8 Nullable))) ≡ Ok bool_or_null
  pub pattern_of_bytes : type_of (like plain (of_type (dtype.Binary NonNullable)) (of_type (dtype.Utf8 NonNullable))) ≡ Err TypeFault
  pub greatest : type_of (stat aggregate.Max (of_type i32_type)) ≡ Ok i32_or_null
  pub no_greatest : type_of (stat aggregate.Max (of_type dtype.Null)) ≡ Err Unsupported
  pub null_count : type_of (stat aggregate.NullCount (of_type state_type)) ≡ Ok (dtype.Primitive ptype.U64 Nullable)
  pub rows : type_of row_count ≡ Ok u64_type

-- the rows of the table of aggregates
pub record AggregateExamples : Type 0 where
  pub least_text : state_dtype aggregate.Min (dtype.Utf8 NonNullable) ≡ Some (dtype.Utf8 Nullable)
  pub least_state : state_dtype aggregate.Min state_type ≡ None
  pub both_ends : state_dtype aggregate.MinMax i32_type ≡ Some state_type
  pub both_ends_of_null : state_dtype aggregate.MinMax dtype.Null ≡ None
  pub signed_sum : state_dtype aggregate.Sum i32_type ≡ Some (dtype.Primitive ptype.I64 Nullable)
  pub unsigned_sum : state_dtype aggregate.Sum (dtype.Primitive ptype.U8 NonNullable) ≡ Some (dtype.Primitive ptype.U64 Nullable)
  pub sum_of_truths : state_dtype aggregate.Sum bool_type ≡ Some (dtype.Primitive ptype.U64 Nullable)
  pub sum_of_texts : state_dtype aggregate.Sum (dtype.Utf8 NonNullable) ≡ None
  pub nulls : state_dtype aggregate.NullCount dtype.Null ≡ Some u64_type
  pub size : state_dtype aggregate.UncompressedSizeInBytes (dtype.Utf8 Nullable) ≡ Some u64_type
  pub no_value : state_dtype aggregate.AllNull dtype.Null ≡ Some bool_type
  pub no_null : state_dtype aggregate.AllNonNull i32_or_null ≡ Some bool_type
  pub no_number : state_dtype aggregate.NanCount i32_type ≡ None

abbrev pub a : Tree Name
a = column text_a

abbrev pub z : Tree Name
z = column (122 ∷ [])

abbrev pub a_at_0 : Tree Place
a_at_0 = of_type i32_type

abbrev pub long : ℕ → {C : Type 0} → Tree C
long n = literal (record { dtype = dtype.Primitive ptype.I64 NonNullable; value = Some (value.Primitive (number.I64 (pos n))) })

abbrev pub int : ℕ → {C : Type 0} → Tree C
int n = literal (record { dtype = i32_type; value = Some (i32_value n) })

-- the columns that names are bound to, and the first fault
pub record BindingExamples : Type 0 where
  pub by_name : bound_in (column_a ∷ []) (binary operator.Gt a (int 1)) ≡ Ok (binary operator.Gt a_at_0 (int 1))
  pub left_child_first : bound_in (column_a ∷ []) (binary operator.And z (binary operator.Eq a (long 1))) ≡ Err UnknownColumn
  pub right_child_first : bound_in (column_a ∷ []) (binary operator.And (binary operator.Eq a (long 1)) z) ≡ Err TypeFault
  pub children_first : bound_in (column_a ∷ []) (not (binary operator.And a z)) ≡ Err UnknownColumn
  pub other_width : bound_in (column_a ∷ []) (binary operator.Eq a (long 1)) ≡ Err TypeFault
  pub unsupported_first : bound_in (column_a ∷ []) (binary operator.Eq (stat aggregate.NanCount a) z) ≡ Err Unsupported
  pub in_placeholder : bound_in (column_a ∷ []) (stat aggregate.Max z) ≡ Err UnknownColumn

abbrev pub truth : Option Bool → Tree Place
truth None = literal (record { dtype = bool_or_null; value = None })
truth (Some b) = literal (record { dtype = bool_or_null; value = Some (value.Bool b) })

abbrev pub null_int : Tree Place
null_int = literal (record { dtype = i32_or_null; value = None })

abbrev pub row_of_5 : List Constant
row_of_5 = record { dtype = i32_or_null; value = Some (i32_value 5) } ∷ []

abbrev pub on_empty : Tree Place → Option ScalarValue
on_empty e = meaning e [] 3

abbrev pub yes_value : Option ScalarValue
yes_value = Some (value.Bool true)

abbrev pub no_value : Option ScalarValue
no_value = Some (value.Bool false)

abbrev pub open_lower : BetweenOptions
open_lower = record { lower_strict = Strict; upper_strict = NonStrict }

abbrev pub open_upper : BetweenOptions
open_upper = record { lower_strict = NonStrict; upper_strict = Strict }

-- what expressions mean, and where they mean nothing
pub record MeaningExamples : Type 0 where
  pub null_and_false : on_empty (binary operator.And (truth None) (truth (Some false))) ≡ no_value
  pub null_and_true : on_empty (binary operator.And (truth None) (truth (Some true))) ≡ None
  pub null_or_false : on_empty (binary operator.Or (truth None) (truth (Some false))) ≡ None
  pub true_or_null : on_empty (binary operator.Or (truth (Some true)) (truth None)) ≡ yes_value
  pub not_null : on_empty (not (truth None)) ≡ None
  pub not_true : on_empty (not (truth (Some true))) ≡ no_value
  pub null_equals_null : on_empty (binary operator.Eq null_int null_int) ≡ None
  pub null_is_null : on_empty (is_null null_int) ≡ yes_value
  pub null_is_not_null : on_empty (is_not_null null_int) ≡ no_value
  pub closed_at_its_end : on_empty (between closed_ends (int 5) (int 5) (int 5)) ≡ yes_value
  pub open_at_its_lower_end : on_empty (between open_lower (int 5) (int 5) (int 9)) ≡ no_value
  pub open_at_its_upper_end : on_empty (between open_upper (int 5) (int 1) (int 5)) ≡ no_value
  pub null_end_and_missed_end : on_empty (between closed_ends (int 5) null_int (int 4)) ≡ no_value
  pub null_end_and_met_end : on_empty (between closed_ends (int 5) null_int (int 6)) ≡ None
  pub rows : on_empty row_count ≡ Some (value.Primitive (number.U64 3))
  pub a_on_a_row : meaning (binary operator.Gt a_at_0 (int 4)) row_of_5 1 ≡ yes_value
  pub no_column : can_evaluate a_at_0 [] ≡ Err RowShape
  pub column_with_null : can_evaluate a_at_0 row_of_5 ≡ Ok tt
  pub column_of_another_type : can_evaluate (of_type u64_type) row_of_5 ≡ Err RowShape
  pub placeholder_first : can_evaluate (binary operator.Eq (stat aggregate.Max a_at_0) a_at_0) [] ≡ Err Placeholder
  pub scope_of_the_type : fits_scope a_at_0 (column_a ∷ []) ≡ true
  pub scope_of_the_type_but_null : fits_scope (of_type i32_or_null) (column_a ∷ []) ≡ false
  pub plain_column : is_plain a_at_0 ≡ true
  pub closed_rows : is_closed {C = Place} (binary operator.Eq row_count (int 1)) ≡ true
  pub not_plain_rows : is_plain {C = Place} row_count ≡ false
