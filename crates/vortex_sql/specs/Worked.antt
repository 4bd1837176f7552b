-- Worked rows of conditions of SQL.
use Rattle.std.specs.Prelude.{◌≡◌, ℕ, ℤ, pos, negsuc, Bool, true, false, Option, Some, None, List, [], ◌∷◌, ◌++◌, Err, codes, decimal}
use Rattle.std.specs.Str.Lossy.{utf8_lossy}
use Rattle.std.specs.declared.cmp.Ordering.TheVariants.{Less, Equal, Greater}
use Rattle.vortex_base.specs.declared.types.Nullability.TheVariants.{Nullable}
use Rattle.vortex_base.specs.declared.types.PType.TheVariants as ptype
use Rattle.vortex_base.specs.declared.dtype.DType.{DType}
use Rattle.vortex_base.specs.declared.dtype.DType.TheVariants as dtype
use Rattle.vortex_base.specs.declared.pvalue.PValue.TheVariants as number
use Rattle.vortex_base.specs.declared.scalar_value.ScalarValue.{ScalarValue}
use Rattle.vortex_base.specs.declared.scalar_value.ScalarValue.TheVariants as value
use Rattle.vortex_base.specs.Data.Scalars.{Constant}
use Rattle.vortex_base.specs.Data.Scopes.{Named, has_duplicate}
use Rattle.vortex_base.specs.declared.aggregate.AggregateFnRef.TheVariants as aggregate
use Rattle.vortex_expr.specs.declared.scalar_fn.Operator.{Operator}
use Rattle.vortex_expr.specs.declared.scalar_fn.Operator.TheVariants as operator
use Rattle.vortex_expr.specs.Trees.Tree.{Tree, Place, binary, column, literal, is_null, is_not_null, stat}
use Rattle.vortex_sql.specs.declared.fault.Fault.TheVariants.{Misfit}
use Rattle.vortex_logical.specs.declared.comparison.Comparison.{Comparison}
use Rattle.vortex_logical.specs.declared.comparison.Comparison.TheVariants.{Eq, NotEq, Gt, Gte, Lt, Lte}
use Rattle.vortex_logical.specs.declared.logical_type.ExactKind.{ExactKind}
use Rattle.vortex_logical.specs.declared.logical_type.ExactKind.TheVariants as kind
use Rattle.vortex_logical.specs.declared.logical_type.LogicalType.TheVariants as logical
use Rattle.vortex_logical.specs.declared.time_unit.TimeUnit.TheVariants as unit
use Rattle.vortex_logical.specs.Meaning.{over}
use Rattle.vortex_floats.specs.Nearest.{nearest_over}
use Rattle.vortex_logical.specs.Floats.{float_holds}
use Rattle.vortex_logical.specs.declared.float_test.NanMeaning.TheVariants as nan
use Rattle.vortex_logical.specs.declared.float_type.FloatType.TheVariants as float
use Rattle.vortex_sql.specs.declared.cells.Cells.TheVariants as cells
use Rattle.vortex_sql.specs.declared.syntax.tree.Condition.{Condition}
use Rattle.vortex_sql.specs.declared.syntax.tree.Condition.TheVariants.{Leaf as Leaf'}
use Rattle.vortex_sql.specs.declared.syntax.tree.Escape.TheVariants as escape
use Rattle.vortex_sql.specs.declared.syntax.tree.Operand.{Operand}
use Rattle.vortex_sql.specs.declared.syntax.tree.Operand.TheVariants.{Column, Null, Truth, Exact, Float, Text, Binary, Other}
use Rattle.vortex_sql.specs.declared.syntax.tree.Test.{Test}
use Rattle.vortex_sql.specs.declared.syntax.tree.Test.TheVariants as test
use Rattle.vortex_sql.specs.Sql as sql
use Rattle.vortex_sql.specs.Sql.{item_cmp, distinct, flipped, test_truth, pattern_in}
use Rattle.vortex_sql.specs.Readings.{Reading, bool_or_null, ordered, said, unread, reading, truth_literal}
use Rattle.vortex_sql.specs.Lowering.{is_known_as, leaf_column, leaf_name}
use Rattle.vortex_sql.specs.Refusals.{is_fit, wide_scope}
use Rattle.vortex_sql.specs.Schemas.{SchemaData, plain_schema}
use Rattle.vortex_sql.specs.Typing.{are_same_cells, beside, typed_as}
use Rattle.vortex_logical.specs.declared.decimal.DecimalDType.{DecimalDType}
use Rattle.vortex_literals.specs.Clocks.{instant_of, time_of, timestamp_of}
use Rattle.vortex_literals.specs.Dates.{date_of}

abbrev pub u8 : DType
u8 = dtype.Primitive ptype.U8 Nullable

abbrev pub i8 : DType
i8 = dtype.Primitive ptype.I8 Nullable

abbrev pub number_of : ExactKind → ℤ → ℕ → Operand
number_of k top scale = Exact (record { kind = k; top = top; scale = scale })

abbrev pub Integer : ℤ → Operand
Integer z = number_of kind.Number z 0

-- a half above a whole number
abbrev pub half : ℤ → Operand
half tenths = number_of kind.Number tenths 1

abbrev pub scope : List Named
scope = (codes "a", u8) ∷ (codes "b", dtype.Bool Nullable) ∷ (codes "c", i8) ∷ (codes "s", dtype.Utf8 Nullable) ∷ []

abbrev pub schema : SchemaData
schema = plain_schema scope

abbrev pub a : Operand
a = Column (codes "a")

abbrev pub b : Operand
b = Column (codes "b")

abbrev pub c : Operand
c = Column (codes "c")

abbrev pub s : Operand
s = Column (codes "s")

abbrev pub here : ℕ → DType → Tree Place
here i t = column (record { index = i; dtype = t })

abbrev pub u8_literal : ℕ → Tree Place
u8_literal n = literal (record { dtype = u8; value = Some (value.Primitive (number.U8 n)) })

abbrev pub i8_literal : ℤ → Tree Place
i8_literal z = literal (record { dtype = i8; value = Some (value.Primitive (number.I8 z)) })

abbrev pub a_is : Operator → ℕ → Tree Place
a_is o n = binary o (here 0 u8) (u8_literal n)

abbrev pub c_is : Operator → ℤ → Tree Place
c_is o z = binary o (here 2 i8) (i8_literal z)

abbrev pub against : Comparison → ℤ → Reading
against o z = reading schema (test.Compare o a (Integer z))

abbrev pub signed : Comparison → ℤ → Reading
signed o z = reading schema (test.Compare o c (Integer z))

abbrev pub known : Bool → Reading
known v = said (truth_literal (Some v))

abbrev pub null : Reading
null = said (truth_literal None)

-- what is said of comparisons
pub record ReadingExamples : Type 0 where
  pub in_range : against Gt (pos 7) ≡ said (a_is operator.Gt 7)
  pub at_most : against Gt (pos 255) ≡ said (a_is operator.Gt 255)
  pub eq_above : against Eq (pos 300) ≡ said (a_is operator.Gt 255)
  pub not_eq_above : against NotEq (pos 300) ≡ said (a_is operator.Lte 255)
  pub gt_above : against Gt (pos 300) ≡ said (a_is operator.Gt 255)
  pub gte_above : against Gte (pos 256) ≡ said (a_is operator.Gt 255)
  pub lt_above : against Lt (pos 300) ≡ said (a_is operator.Lte 255)
  pub lte_above : against Lte (pos 300) ≡ said (a_is operator.Lte 255)
  pub eq_below : against Eq (negsuc 0) ≡ said (a_is operator.Lt 0)
  pub not_eq_below : against NotEq (negsuc 0) ≡ said (a_is operator.Gte 0)
  pub gt_below : against Gt (negsuc 0) ≡ said (a_is operator.Gte 0)
  pub gte_below : against Gte (negsuc 0) ≡ said (a_is operator.Gte 0)
  pub lt_below : against Lt (negsuc 0) ≡ said (a_is operator.Lt 0)
  pub lte_below : against Lte (negsuc 0) ≡ said (a_is operator.Lt 0)
  pub signed_least : signed Lt (negsuc 127) ≡ said (c_is operator.Lt (negsuc 127))
  pub signed_below : signed Lt (negsuc 128) ≡ said (c_is operator.Lt (negsuc 127))
  pub signed_eq_below : signed Eq (negsuc 128) ≡ said (c_is operator.Lt (negsuc 127))
  pub signed_gt_below : signed Gt (negsuc 128) ≡ said (c_is operator.Gte (negsuc 127))
  pub signed_above : signed Gt (pos 128) ≡ said (c_is operator.Gt (pos 127))
  pub signed_lt_above : signed Lt (pos 128) ≡ said (c_is operator.Lte (pos 127))
  pub eq_fraction : reading schema (test.Compare Eq a (half (pos 35))) ≡ said (a_is operator.Gt 255)
  pub not_eq_fraction : reading schema (test.Compare NotEq a (half (pos 35))) ≡ said (a_is operator.Lte 255)
  pub gt_fraction : reading schema (test.Compare Gt a (half (pos 35))) ≡ said (a_is operator.Gt 3)
  pub gte_fraction : reading schema (test.Compare Gte a (half (pos 35))) ≡ said (a_is operator.Gt 3)
  pub lt_fraction : reading schema (test.Compare Lt a (half (pos 35))) ≡ said (a_is operator.Lte 3)
  pub lte_fraction : reading schema (test.Compare Lte a (half (pos 35))) ≡ said (a_is operator.Lte 3)
  pub fraction_first : reading schema (test.Compare Gt (half (pos 35)) a) ≡ said (a_is operator.Lte 3)
  pub literal_first : reading schema (test.Compare Gt (Integer (pos 7)) a) ≡ said (a_is operator.Lt 7)
  pub misfit : reading schema (test.Compare Eq a (Text (codes "x"))) ≡ Err Misfit
  pub misfit_first : reading schema (test.Compare Eq (Text (codes "x")) a) ≡ Err Misfit
  pub other_width : reading schema (test.Compare Eq a c) ≡ unread
  pub same_type : reading schema (test.Compare Lt a a) ≡ said (binary operator.Lt (here 0 u8) (here 0 u8))
  pub other_kind : reading schema (test.Compare Eq a b) ≡ Err Misfit
  pub no_column : reading schema (test.Compare Eq (Column (codes "z")) (Integer (pos 7))) ≡ unread
  pub no_column_behind : reading schema (test.Compare Eq (Integer (pos 7)) (Column (codes "z"))) ≡ unread
  pub no_operand : reading schema (test.Compare Eq a Other) ≡ unread
  pub no_operand_first : reading schema (test.Compare Eq Other a) ≡ unread
  pub with_null : reading schema (test.Compare Eq a Null) ≡ null
  pub with_null_first : reading schema (test.Compare Gt Null a) ≡ null
  pub other_with_null : reading schema (test.Compare Eq Other Null) ≡ null
  pub no_column_null : reading schema (test.Compare Eq (Column (codes "z")) Null) ≡ null
  pub nulls : reading schema (test.Compare Eq Null Null) ≡ null
  pub one_is_one : reading schema (test.Compare Eq (Integer (pos 1)) (Integer (pos 1))) ≡ known true
  pub one_below_two : reading schema (test.Compare Lt (Integer (pos 1)) (Integer (pos 2))) ≡ known true
  pub two_below_one : reading schema (test.Compare Lt (Integer (pos 2)) (Integer (pos 1))) ≡ known false
  pub truths : reading schema (test.Compare Gt (Truth true) (Truth false)) ≡ known true
  pub texts : reading schema (test.Compare Eq (Text (codes "x")) (Text (codes "y"))) ≡ known false
  pub binaries : reading schema (test.Compare Lt (Binary (1 ∷ [])) (Binary (2 ∷ []))) ≡ known true
  pub kinds : reading schema (test.Compare Eq (Integer (pos 1)) (Text (codes "1"))) ≡ Err Misfit

-- what is said of other tests
pub record OtherReadings : Type 0 where
  pub truth_column : reading schema (test.Truth b) ≡ said (here 1 (dtype.Bool Nullable))
  pub no_truth : reading schema (test.Truth a) ≡ Err Misfit
  pub truth_of_number : reading schema (test.Truth (Integer (pos 1))) ≡ Err Misfit
  pub literal_truth : reading schema (test.Truth (Truth true)) ≡ known true
  pub null_truth : reading schema (test.Truth Null) ≡ null
  pub other_truth : reading schema (test.Truth Other) ≡ unread
  pub null_test : reading schema (test.IsNull a) ≡ said (is_null (here 0 u8))
  pub null_of_null : reading schema (test.IsNull Null) ≡ known true
  pub null_of_number : reading schema (test.IsNull (Integer (pos 3))) ≡ known false
  pub null_of_other : reading schema (test.IsNull Other) ≡ unread
  pub distinct : reading schema (test.Distinct a (Integer (pos 3))) ≡ said (binary operator.Or (a_is operator.NotEq 3) (is_null (here 0 u8)))
  pub distinct_first : reading schema (test.Distinct (Integer (pos 3)) a) ≡ said (binary operator.Or (a_is operator.NotEq 3) (is_null (here 0 u8)))
  pub distinct_null : reading schema (test.Distinct a Null) ≡ said (is_not_null (here 0 u8))
  pub distinct_null_first : reading schema (test.Distinct Null a) ≡ said (is_not_null (here 0 u8))
  pub distinct_columns : reading schema (test.Distinct a a) ≡ unread
  pub distinct_nulls : reading schema (test.Distinct Null Null) ≡ known false
  pub distinct_from_null : reading schema (test.Distinct (Integer (pos 3)) Null) ≡ known true
  pub null_distinct : reading schema (test.Distinct Null (Integer (pos 3))) ≡ known true
  pub distinct_numbers : reading schema (test.Distinct (Integer (pos 3)) (Integer (pos 4))) ≡ known true
  pub distinct_misfit : reading schema (test.Distinct a (Text (codes "x"))) ≡ Err Misfit
  pub between : reading schema (test.Between a (Integer (pos 3)) (Integer (pos 5))) ≡ said (binary operator.And (a_is operator.Gte 3) (a_is operator.Lte 5))
  pub between_misfit : reading schema (test.Between a Other (Text (codes "x"))) ≡ Err Misfit
  pub between_unread : reading schema (test.Between a Other (Integer (pos 5))) ≡ unread
  pub symmetric : reading schema (test.BetweenSymmetric a (Integer (pos 5)) (Integer (pos 3)))
      ≡ said (binary operator.Or (binary operator.And (a_is operator.Gte 5) (a_is operator.Lte 3)) (binary operator.And (a_is operator.Gte 3) (a_is operator.Lte 5)))
  pub in_one : reading schema (test.In a (Integer (pos 3) ∷ [])) ≡ said (a_is operator.Eq 3)
  pub in_three : reading schema (test.In a (Integer (pos 3) ∷ Integer (pos 4) ∷ Integer (pos 5) ∷ []))
      ≡ said (binary operator.Or (binary operator.Or (a_is operator.Eq 3) (a_is operator.Eq 4)) (a_is operator.Eq 5))
  pub in_other : reading schema (test.In a (Integer (pos 3) ∷ Other ∷ [])) ≡ unread
  pub in_misfit : reading schema (test.In a (Other ∷ Text (codes "x") ∷ [])) ≡ Err Misfit
  pub like_null : reading schema (test.Like s Null escape.Backslash) ≡ null
  pub like_number : reading schema (test.Like a (Text (codes "x")) escape.Backslash) ≡ Err Misfit
  pub like_column : reading schema (test.Like s s escape.Backslash) ≡ unread
  pub like_escaped : reading schema (test.Like s (Text (codes "x")) escape.Nothing) ≡ unread
  pub other : reading schema test.Other ≡ unread

-- the order of values
pub record OrderExamples : Type 0 where
  pub truths : item_cmp (sql.truth false) (sql.truth true) ≡ Some Less
  pub truths_turned : item_cmp (sql.truth true) (sql.truth false) ≡ Some Greater
  pub numbers : item_cmp (sql.exact kind.Number (over (negsuc 0) 0)) (sql.exact kind.Number (over (pos 0) 0)) ≡ Some Less
  pub number_below_fraction : item_cmp (sql.exact kind.Number (over (pos 3) 0)) (sql.exact kind.Number (over (pos 35) 1)) ≡ Some Less
  pub number_above_fraction : item_cmp (sql.exact kind.Number (over (pos 4) 0)) (sql.exact kind.Number (over (pos 35) 1)) ≡ Some Greater
  pub below_zero : item_cmp (sql.exact kind.Number (over (negsuc 3) 0)) (sql.exact kind.Number (over (negsuc 34) 1)) ≡ Some Less
  pub fractions : item_cmp (sql.exact kind.Number (over (pos 35) 1)) (sql.exact kind.Number (over (pos 349) 2)) ≡ Some Greater
  pub same_fractions : item_cmp (sql.exact kind.Number (over (pos 35) 1)) (sql.exact kind.Number (over (pos 350) 2)) ≡ Some Equal
  pub clocks : item_cmp (sql.exact kind.Clock (over (pos 1) 0)) (sql.exact kind.Clock (over (pos 2) 0)) ≡ Some Less
  pub instants : item_cmp (sql.exact kind.Instant (over (pos 1) 0)) (sql.exact kind.Instant (over (pos 2) 0)) ≡ Some Less
  pub times : item_cmp (sql.exact kind.TimeOfDay (over (pos 1) 0)) (sql.exact kind.TimeOfDay (over (pos 2) 0)) ≡ Some Less
  pub clock_and_instant : item_cmp (sql.exact kind.Clock (over (pos 1) 0)) (sql.exact kind.Instant (over (pos 1) 0)) ≡ None
  pub instant_and_clock : item_cmp (sql.exact kind.Instant (over (pos 1) 0)) (sql.exact kind.Clock (over (pos 1) 0)) ≡ None
  pub clock_and_number : item_cmp (sql.exact kind.Clock (over (pos 1) 0)) (sql.exact kind.Number (over (pos 1) 0)) ≡ None
  pub number_and_time : item_cmp (sql.exact kind.Number (over (pos 1) 0)) (sql.exact kind.TimeOfDay (over (pos 1) 0)) ≡ None
  pub texts : item_cmp (sql.text (codes "a")) (sql.text (codes "ab")) ≡ Some Less
  pub binaries : item_cmp (sql.binary (2 ∷ [])) (sql.binary (1 ∷ 5 ∷ [])) ≡ Some Greater
  pub kinds : item_cmp (sql.exact kind.Number (over (pos 1) 0)) (sql.truth true) ≡ None
  pub kinds_turned : item_cmp (sql.text []) (sql.binary []) ≡ None
  pub flipped_gt : flipped Gt ≡ Lt
  pub flipped_gte : flipped Gte ≡ Lte
  pub flipped_lt : flipped Lt ≡ Gt
  pub flipped_lte : flipped Lte ≡ Gte
  pub flipped_eq : flipped Eq ≡ Eq
  pub flipped_not_eq : flipped NotEq ≡ NotEq

abbrev pub number_in : Option ℕ → Option ScalarValue
number_in None = None
number_in (Some n) = Some (value.Primitive (number.U8 n))

abbrev pub row : Option ℕ → List Constant
row m = record { dtype = u8; value = number_in m } ∷ record { dtype = dtype.Bool Nullable; value = Some (value.Bool false) } ∷ record { dtype = i8; value = Some (value.Primitive (number.I8 (pos 5))) } ∷ record { dtype = dtype.Utf8 Nullable; value = None } ∷ []

abbrev pub truth_at : Option ℕ → Test → Option Bool
truth_at m t = test_truth schema (row m) t

abbrev pub five : Operand
five = Integer (pos 5)

abbrev pub six : Operand
six = Integer (pos 6)

-- what tests mean
pub record TruthExamples : Type 0 where
  pub greater : truth_at (Some 7) (test.Compare Gt a six) ≡ Some true
  pub greater_turned : truth_at (Some 7) (test.Compare Gt six a) ≡ Some false
  pub above_all : truth_at (Some 255) (test.Compare Gt a (Integer (pos 300))) ≡ Some false
  pub above_null : truth_at None (test.Compare Gt a (Integer (pos 300))) ≡ None
  pub null_first : truth_at (Some 5) (test.Compare Eq Null a) ≡ None
  pub null_behind : truth_at (Some 5) (test.Compare Eq a Null) ≡ None
  pub other_width : truth_at (Some 5) (test.Compare Eq a c) ≡ Some true
  pub above_fraction : truth_at (Some 4) (test.Compare Gt a (half (pos 35))) ≡ Some true
  pub below_fraction : truth_at (Some 3) (test.Compare Gt a (half (pos 35))) ≡ Some false
  pub fraction_first : truth_at (Some 3) (test.Compare Gt (half (pos 35)) a) ≡ Some true
  pub no_fraction : truth_at (Some 3) (test.Compare Eq a (half (pos 35))) ≡ Some false
  pub other_than_fraction : truth_at (Some 3) (test.Compare NotEq a (half (pos 35))) ≡ Some true
  pub distinct_values : truth_at (Some 5) (test.Distinct a six) ≡ Some true
  pub distinct_same : truth_at (Some 5) (test.Distinct a five) ≡ Some false
  pub distinct_null : truth_at None (test.Distinct a five) ≡ Some true
  pub distinct_from_null : truth_at (Some 5) (test.Distinct a Null) ≡ Some true
  pub distinct_nulls : truth_at None (test.Distinct a Null) ≡ Some false
  pub in_first : truth_at (Some 5) (test.In a (five ∷ Null ∷ [])) ≡ Some true
  pub in_last : truth_at (Some 5) (test.In a (Null ∷ five ∷ [])) ≡ Some true
  pub in_null : truth_at (Some 5) (test.In a (six ∷ Null ∷ [])) ≡ None
  pub in_none : truth_at (Some 5) (test.In a (six ∷ Integer (negsuc 5) ∷ [])) ≡ Some false
  pub null_in : truth_at None (test.In a (six ∷ [])) ≡ None
  pub between_ends : truth_at (Some 5) (test.Between a five five) ≡ Some true
  pub between_below : truth_at (Some 4) (test.Between a five six) ≡ Some false
  pub between_above : truth_at (Some 7) (test.Between a five six) ≡ Some false
  pub between_turned : truth_at (Some 5) (test.Between a six five) ≡ Some false
  pub below : truth_at (Some 4) (test.Between a five Null) ≡ Some false
  pub between_null : truth_at (Some 5) (test.Between a five Null) ≡ None
  pub symmetric : truth_at (Some 5) (test.BetweenSymmetric a six five) ≡ Some true
  pub symmetric_below : truth_at (Some 4) (test.BetweenSymmetric a six five) ≡ Some false
  pub is_null : truth_at None (test.IsNull a) ≡ Some true
  pub is_not_null : truth_at (Some 0) (test.IsNull a) ≡ Some false
  pub truth_column : truth_at None (test.Truth b) ≡ Some false
  pub truth_null : truth_at None (test.Truth Null) ≡ None
  pub like_null : truth_at None (test.Like Null (Text (codes "%")) escape.Backslash) ≡ None
  pub like_null_pattern : truth_at None (test.Like (Text (codes "x")) Null escape.Backslash) ≡ None
  pub known_true : is_known_as true (Some true) ≡ true
  pub known_not_true : is_known_as true (Some false) ≡ false
  pub unknown_not_true : is_known_as true None ≡ false
  pub known_false : is_known_as false (Some false) ≡ true
  pub known_not_false : is_known_as false (Some true) ≡ false
  pub unknown_not_false : is_known_as false None ≡ false

-- patterns with another character for the backslash
pub record PatternExamples : Type 0 where
  pub as_it_is : pattern_in escape.Backslash (codes "a\\%") ≡ Some (codes "a\\%")
  pub marked : pattern_in (escape.Byte 33) (codes "a!%b") ≡ Some (codes "a\\%b")
  pub marked_itself : pattern_in (escape.Byte 33) (codes "a!!b") ≡ Some (codes "a\\!b")
  pub marked_last : pattern_in (escape.Byte 33) (codes "a!") ≡ None
  pub backslash_plain : pattern_in (escape.Byte 33) (codes "\\%") ≡ Some (codes "\\\\%")
  pub backslash_marked : pattern_in (escape.Byte 33) (codes "!\\") ≡ Some (codes "\\\\")
  pub none_marks : pattern_in escape.Nothing (codes "\\%!") ≡ Some (codes "\\\\%!")

abbrev pub i32 : DType
i32 = dtype.Primitive ptype.I32 Nullable

abbrev pub i64 : DType
i64 = dtype.Primitive ptype.I64 Nullable

-- a day, a timestamp of microseconds without a zone, one of milliseconds with one, and a time of microseconds
abbrev pub dated : SchemaData
dated = record {
  scope = (codes "d", i32) ∷ (codes "t", i64) ∷ (codes "z", i64) ∷ (codes "m", i64) ∷ (codes "n", i64) ∷ [];
  cells = cells.Exact logical.Date ∷ cells.Exact (logical.Timestamp unit.Microseconds) ∷ cells.Exact (logical.TimestampTz unit.Milliseconds) ∷ cells.Exact (logical.Time unit.Microseconds) ∷ [];
}

abbrev pub d : Operand
d = Column (codes "d")

abbrev pub t : Operand
t = Column (codes "t")

abbrev pub z : Operand
z = Column (codes "z")

abbrev pub m : Operand
m = Column (codes "m")

abbrev pub n : Operand
n = Column (codes "n")

abbrev pub i32_is : Operator → ℤ → Tree Place
i32_is o v = binary o (here 0 i32) (literal (record { dtype = i32; value = Some (value.Primitive (number.I32 v)) }))

abbrev pub i64_is : ℕ → Operator → ℤ → Tree Place
i64_is i o v = binary o (here i i64) (literal (record { dtype = i64; value = Some (value.Primitive (number.I64 v)) }))

abbrev pub clock : ℤ → ℕ → Operand
clock = number_of kind.Clock

abbrev pub instant : ℤ → ℕ → Operand
instant = number_of kind.Instant

-- what is said of comparisons of days, timestamps and times: the second day begins at 86,400 seconds
pub record TypedReadings : Type 0 where
  pub day : reading dated (test.Compare Lte d (clock (pos 86_400) 0)) ≡ said (i32_is operator.Lte (pos 1))
  pub within_day : reading dated (test.Compare Lt d (clock (pos 86_401) 0)) ≡ said (i32_is operator.Lte (pos 1))
  pub day_first : reading dated (test.Compare Gt (clock (pos 86_400) 0) d) ≡ said (i32_is operator.Lt (pos 1))
  pub past_days : reading dated (test.Compare Lt d (clock (pos 999_999_999_999_999_999_999_999) 0)) ≡ said (i32_is operator.Lte (pos 2_147_483_647))
  pub micros : reading dated (test.Compare Gte t (clock (pos 15) 1)) ≡ said (i64_is 1 operator.Gte (pos 1_500_000))
  pub finer : reading dated (test.Compare Gte t (clock (pos 15_000_001) 7)) ≡ said (i64_is 1 operator.Gt (pos 1_500_000))
  pub millis : reading dated (test.Compare Eq z (instant (pos 2) 0)) ≡ said (i64_is 2 operator.Eq (pos 2_000))
  pub clock_of_instant : reading dated (test.Compare Eq z (clock (pos 2) 0)) ≡ unread
  pub instant_of_clock : reading dated (test.Compare Eq t (instant (pos 2) 0)) ≡ unread
  pub time : reading dated (test.Compare Gt m (number_of kind.TimeOfDay (pos 1) 0)) ≡ said (i64_is 3 operator.Gt (pos 1_000_000))
  pub raw_number : reading dated (test.Compare Lt d (Integer (pos 100))) ≡ Err Misfit
  pub raw_instant : reading dated (test.Compare Lt (Integer (pos 100)) z) ≡ Err Misfit
  pub number_as_clock : reading dated (test.Compare Lt n (clock (pos 1) 0)) ≡ unread
  pub two_clocks : reading dated (test.Compare Lt (clock (pos 1) 0) (clock (pos 2) 0)) ≡ unread
  pub fractions : reading dated (test.Compare Lt (half (pos 5)) (Integer (pos 2))) ≡ unread
  pub fractions_behind : reading dated (test.Compare Lt (Integer (pos 2)) (half (pos 5))) ≡ unread
  pub two_types : reading dated (test.Compare Lt t z) ≡ unread
  pub same_types : reading dated (test.Compare Lt t t) ≡ said (binary operator.Lt (here 1 i64) (here 1 i64))
  pub raw_column : reading dated (test.Compare Lt t n) ≡ unread
  pub null_day : reading dated (test.IsNull d) ≡ said (is_null (here 0 i32))
  pub longest : reading dated (test.Compare Lt n (number_of kind.Number (pos 1) 33)) ≡ said (i64_is 4 operator.Lte (pos 0))
  pub too_long : reading dated (test.Compare Lt n (number_of kind.Number (pos 1) 34)) ≡ unread

-- a text, and what it is read as
abbrev pub day_text : List ℕ
day_text = codes "1970-01-02"

-- a day by its text, which is read as the second day, or isn't
pub record TextReadings : Type 0 where
  pub day : date_of day_text ≡ Some (over (pos 86_400) 0) → reading dated (test.Compare Gte d (Text day_text)) ≡ said (i32_is operator.Gte (pos 1))
  pub day_behind : date_of day_text ≡ Some (over (pos 86_400) 0) → reading dated (test.Compare Gte (Text day_text) d) ≡ said (i32_is operator.Lte (pos 1))
  pub no_day : date_of day_text ≡ None → reading dated (test.Compare Gte d (Text day_text)) ≡ unread
  pub days : date_of day_text ≡ Some (over (pos 86_400) 0) → reading dated (test.Between d (Text day_text) (clock (pos 172_800) 0)) ≡ said (binary operator.And (i32_is operator.Gte (pos 1)) (i32_is operator.Lte (pos 2)))
  pub in_days : date_of day_text ≡ Some (over (pos 86_400) 0) → reading dated (test.In d (Text day_text ∷ [])) ≡ said (i32_is operator.Eq (pos 1))
  pub distinct : date_of day_text ≡ Some (over (pos 86_400) 0) → reading dated (test.Distinct (Text day_text) d) ≡ said (binary operator.Or (i32_is operator.NotEq (pos 1)) (is_null (here 0 i32)))
  pub timestamp : timestamp_of day_text ≡ Some (over (pos 86_400_000_000_000) 9) → reading dated (test.Compare Gte t (Text day_text)) ≡ said (i64_is 1 operator.Gte (pos 86_400_000_000))
  pub instant : instant_of day_text ≡ Some (over (pos 86_400_000_000_000) 9) → reading dated (test.Compare Gte z (Text day_text)) ≡ said (i64_is 2 operator.Gte (pos 86_400_000))
  pub time : time_of day_text ≡ Some (over (pos 1_000_000_000) 9) → reading dated (test.Compare Gte m (Text day_text)) ≡ said (i64_is 3 operator.Gte (pos 1_000_000))

-- a row of a day
abbrev pub day_row : ℤ → List Constant
day_row v = record { dtype = i32; value = Some (value.Primitive (number.I32 v)) } ∷ []

-- what these tests mean
pub record TypedTruths : Type 0 where
  pub at_day : test_truth dated (day_row (pos 1)) (test.Compare Eq d (clock (pos 86_400) 0)) ≡ Some true
  pub before_noon : test_truth dated (day_row (pos 1)) (test.Compare Lt d (clock (pos 129_600) 0)) ≡ Some true
  pub after_noon : test_truth dated (day_row (pos 2)) (test.Compare Lt d (clock (pos 129_600) 0)) ≡ Some false
  pub number_beside_day : test_truth dated (day_row (pos 1)) (test.Compare Eq d (Integer (pos 1))) ≡ None
  pub same_cells : are_same_cells (cells.Exact (logical.Timestamp unit.Seconds)) (cells.Exact (logical.Timestamp unit.Milliseconds)) ≡ false
  pub same_zones : are_same_cells (cells.Exact (logical.Timestamp unit.Seconds)) (cells.Exact (logical.TimestampTz unit.Seconds)) ≡ false
  pub same_days : are_same_cells (cells.Exact logical.Date) (cells.Exact logical.Date) ≡ true
  pub days_and_seconds : are_same_cells (cells.Exact logical.Date) (cells.Exact (logical.Timestamp unit.Seconds)) ≡ false
  pub text_beside_text : beside dated (Text (codes "x")) (Text day_text) ≡ Text day_text
  pub text_beside_number : beside dated n (Text day_text) ≡ Text day_text
  pub number_beside_column : beside dated d (Integer (pos 1)) ≡ Integer (pos 1)
  pub text_beside_decimal : (x : DecimalDType) → typed_as (cells.Exact (logical.Decimal x)) (Text day_text) ≡ Other

-- ---- the columns of the leaves that aren't read

abbrev pub call : Condition
call = Leaf' (record { start = 0; end = 3; test = test.Other })

abbrev pub called : List ℕ
called = codes "f()"

-- a column that has the name of the leaf
abbrev pub taking : SchemaData
taking = plain_schema ((leaf_name called (0, 3), u8) ∷ [])

pub record LeafNames : Type 0 where
  pub name : leaf_column (codes "a = f(x)") (4, 8) ≡ (decimal 4 ++ (codes ": " ++ utf8_lossy (codes "f(x)")), bool_or_null)
  pub past_end : leaf_name (codes "abc") (2, 9) ≡ decimal 2 ++ (codes ": " ++ utf8_lossy [])
  pub turned : leaf_name (codes "abc") (3, 2) ≡ decimal 3 ++ (codes ": " ++ utf8_lossy [])
  pub behind : wide_scope called schema call ≡ scope ++ (leaf_name called (0, 3), bool_or_null) ∷ []
  pub taken : has_duplicate (wide_scope called taking call) ≡ true
  pub no_leaf : wide_scope called taking (Leaf' (record { start = 0; end = 3; test = test.Truth (Truth true) })) ≡ taking.scope
  pub fit : is_fit (here 1 bool_or_null) scope ≡ true
  pub no_truth : is_fit (here 0 u8) scope ≡ false
  pub other_type : is_fit (here 0 bool_or_null) scope ≡ false
  pub no_column : is_fit (here 4 bool_or_null) scope ≡ false
  pub statistic : is_fit (is_not_null (stat aggregate.Min (here 0 u8))) scope ≡ false

-- ---- floats

abbrev pub measured : SchemaData
measured = record {
  scope = (codes "x", i64) ∷ (codes "g", i64) ∷ (codes "i", i64) ∷ (codes "f", i32) ∷ (codes "w", i8) ∷ [];
  cells =
      cells.Floats float.F64 None ∷ cells.Floats float.F64 (Some nan.Greatest) ∷ cells.Floats float.F64 (Some nan.Ieee) ∷ cells.Floats float.F32 None ∷ cells.Floats float.F64 None ∷ [];
}

abbrev pub x : Operand
x = Column (codes "x")

abbrev pub g : Operand
g = Column (codes "g")

abbrev pub i : Operand
i = Column (codes "i")

abbrev pub f : Operand
f = Column (codes "f")

abbrev pub w : Operand
w = Column (codes "w")

-- the bits of 1.5, of -2.0 and of NaN
abbrev pub one_and_half : ℕ
one_and_half = 4_609_434_218_613_702_656

abbrev pub minus_two : ℕ
minus_two = 13_835_058_055_282_163_712

abbrev pub not_a_number : ℕ
not_a_number = 9_221_120_237_041_090_560

-- 1.5 in 32 bits
abbrev pub short_half : ℕ
short_half = 1_069_547_520

-- what is said of comparisons of floats: each is one of whole numbers, where NaN's is above all others
pub record FloatReadings : Type 0 where
  pub lt : reading measured (test.Compare Lt x (Float one_and_half)) ≡ said (i64_is 0 operator.Lt (pos 4_609_434_218_613_702_656))
  pub lte : reading measured (test.Compare Lte x (Float one_and_half)) ≡ said (i64_is 0 operator.Lte (pos 4_609_434_218_613_702_656))
  pub equal : reading measured (test.Compare Eq x (Float one_and_half)) ≡ said (i64_is 0 operator.Eq (pos 4_609_434_218_613_702_656))
  pub not_equal : reading measured (test.Compare NotEq x (Float one_and_half)) ≡ said (i64_is 0 operator.NotEq (pos 4_609_434_218_613_702_656))
  pub below_zero : reading measured (test.Compare Lt x (Float minus_two)) ≡ said (i64_is 0 operator.Lt (negsuc 4_611_686_018_427_387_904))
  pub gt_unsaid : reading measured (test.Compare Gt x (Float one_and_half)) ≡ unread
  pub gte_unsaid : reading measured (test.Compare Gte x (Float one_and_half)) ≡ unread
  pub turned : reading measured (test.Compare Gt (Float one_and_half) x) ≡ said (i64_is 0 operator.Lt (pos 4_609_434_218_613_702_656))
  pub gt_greatest : reading measured (test.Compare Gt g (Float one_and_half)) ≡ said (i64_is 1 operator.Gt (pos 4_609_434_218_613_702_656))
  pub gt_ieee : reading measured (test.Compare Gt i (Float one_and_half)) ≡ said (binary operator.And (i64_is 2 operator.Gt (pos 4_609_434_218_613_702_656)) (i64_is 2 operator.Lt (pos 9_221_120_237_041_090_560)))
  pub lt_ieee : reading measured (test.Compare Lt i (Float one_and_half)) ≡ said (i64_is 2 operator.Lt (pos 4_609_434_218_613_702_656))
  pub nan : reading measured (test.Compare Eq g (Float not_a_number)) ≡ unread
  pub short : reading measured (test.Compare Lt f (Float short_half)) ≡ said (binary operator.Lt (here 3 i32) (literal (record { dtype = i32; value = Some (value.Primitive (number.I32 (pos 1_069_547_520))) })))
  pub narrow : reading measured (test.Compare Lt w (Float one_and_half)) ≡ unread
  pub with_null : reading measured (test.Compare Lt x Null) ≡ said (truth_literal None)
  pub with_other : reading measured (test.Compare Lt x Other) ≡ unread
  pub with_truth : reading measured (test.Compare Lt x (Truth true)) ≡ Err Misfit
  pub with_text : reading measured (test.Compare Lt x (Text (codes "1.5"))) ≡ unread
  pub with_clock : reading measured (test.Compare Lt x (clock (pos 1) 0)) ≡ Err Misfit
  pub too_long : reading measured (test.Compare Lt x (number_of kind.Number (pos 1) 34)) ≡ unread
  pub two_columns : reading measured (test.Compare Lt x x) ≡ unread
  pub null_test : reading measured (test.IsNull x) ≡ said (is_null (here 0 i64))
  pub between : reading measured (test.Between x (Float one_and_half) (Float one_and_half)) ≡ said (binary operator.And (i64_is 0 operator.Gte (pos 4_609_434_218_613_702_656)) (i64_is 0 operator.Lte (pos 4_609_434_218_613_702_656)))
  pub between_ieee : reading measured (test.Between i (Float one_and_half) (Float one_and_half)) ≡ said (binary operator.And (binary operator.And (i64_is 2 operator.Gte (pos 4_609_434_218_613_702_656)) (i64_is 2 operator.Lt (pos 9_221_120_237_041_090_560))) (i64_is 2 operator.Lte (pos 4_609_434_218_613_702_656)))
  pub between_null : reading measured (test.Between x (Float one_and_half) Null) ≡ unread
  pub between_nan : reading measured (test.Between x (Float one_and_half) (Float not_a_number)) ≡ unread
  pub number : nearest_over float.F64 (pos 15) 1 ≡ Some one_and_half → reading measured (test.Compare Lt x (half (pos 15))) ≡ said (i64_is 0 operator.Lt (pos 4_609_434_218_613_702_656))
  pub no_float : nearest_over float.F64 (pos 15) 1 ≡ None → reading measured (test.Compare Lt x (half (pos 15))) ≡ unread

-- a row of floats
abbrev pub float_row : ℤ → List Constant
float_row v =
    record { dtype = i64; value = Some (value.Primitive (number.I64 v)) }
    ∷ record { dtype = i64; value = Some (value.Primitive (number.I64 v)) }
    ∷ record { dtype = i64; value = Some (value.Primitive (number.I64 v)) }
    ∷ []

pub record FloatCells : Type 0 where
  pub same_floats : are_same_cells (cells.Floats float.F64 None) (cells.Floats float.F64 None) ≡ false
  pub floats_and_values : are_same_cells (cells.Floats float.F64 None) cells.Values ≡ false
  pub values_and_floats : are_same_cells cells.Values (cells.Floats float.F64 None) ≡ false
  pub dates_and_floats : are_same_cells (cells.Exact logical.Date) (cells.Floats float.F64 None) ≡ false
  pub values : are_same_cells cells.Values cells.Values ≡ true
  pub cell : sql.item_of (cells.Floats float.F64 None) (value.Primitive (number.I64 (pos 7))) ≡ sql.float float.F64 None 7
  pub below_zero : sql.item_of (cells.Floats float.F64 None) (value.Primitive (number.I64 (negsuc 1))) ≡ sql.float float.F64 None 9_223_372_036_854_775_809
  pub ordered_unsaid : ordered (cells.Floats float.F32 None) ≡ cells.Floats float.F32 (Some nan.Greatest)
  pub ordered_said : ordered (cells.Floats float.F32 (Some nan.Ieee)) ≡ cells.Floats float.F32 (Some nan.Ieee)
  pub ordered_values : ordered cells.Values ≡ cells.Values
  pub ordered_dates : ordered (cells.Exact logical.Date) ≡ cells.Exact logical.Date
  pub unsaid : sql.meant None ≡ nan.Greatest
  pub meant : sql.meant (Some nan.Ieee) ≡ nan.Ieee
  pub literal : sql.value_in measured [] (Float 5) ≡ Some (sql.bits 5)
  pub two_literals : item_cmp (sql.bits 5) (sql.bits 5) ≡ None
  pub held : sql.item_holds Lt (sql.float float.F64 None 5) (sql.bits 7) ≡ Some (float_holds nan.Greatest float.F64 Lt 5 7)
  pub held_ieee : sql.item_holds Gt (sql.float float.F32 (Some nan.Ieee) 5) (sql.bits 7) ≡ Some (float_holds nan.Ieee float.F32 Gt 5 7)
  pub held_turned : sql.item_holds Lt (sql.bits 7) (sql.float float.F64 None 5) ≡ Some (float_holds nan.Greatest float.F64 Gt 5 7)
