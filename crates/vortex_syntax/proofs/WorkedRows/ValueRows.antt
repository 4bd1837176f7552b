-- Worked rows: values, statistics, the words of expressions, and what takes memory, computed.
use Rattle.std.proofs.Common.{◌≡◌, true, false, [], ◌∷◌, None, Some, pos, negsuc, codes, refl}
use Rattle.std.specs.Str.{chars, is_utf8}
use Rattle.vortex_base.specs.declared.dtype.DType.TheVariants as dtype
use Rattle.vortex_base.specs.declared.pvalue.PValue.TheVariants as pvalue
use Rattle.vortex_base.specs.declared.scalar_value.ScalarValue.TheVariants as value
use Rattle.vortex_base.specs.declared.types.Nullability.TheVariants.{Nullable, NonNullable}
use Rattle.vortex_expr.specs.declared.scalar_fn.Operator.TheVariants as operator
use Rattle.vortex_base.specs.declared.types.PType.TheVariants as ptype
use Rattle.vortex_expr.specs.declared.scalar_fn.StrictComparison.TheVariants.{Strict, NonStrict}
use Rattle.vortex_stats.specs.declared.precision.Precision.TheVariants.{Exact, Inexact}
use Rattle.vortex_stats.specs.declared.stat.Stat.TheVariants as stat
use Rattle.vortex_syntax.specs.Copies.{claim_takes, first_is_copied, is_copied, makes_bytes}
use Rattle.vortex_syntax.specs.Expressions.{begins_expression, form_of, operator_of, strictness_of}
use Rattle.vortex_syntax.specs.Statistics.{claimed, claimed_value, precision_of, stat_of}
use Rattle.vortex_syntax.specs.Values.{optional_value_of, value_of}
use Rattle.vortex_syntax.specs.Words.{Plain, Quoted, Broken}
use Rattle.vortex_syntax.specs.declared.form.Form.TheVariants as form

bytes_value : value_of (dtype.Binary NonNullable) (Plain (codes "x00ff")) ≡ Some (value.Binary (0 ∷ 255 ∷ []))
bytes_value = refl

-- a text between quotes is a text and nothing else
bytes_in_quotes : value_of (dtype.Binary NonNullable) (Quoted (codes "x00")) ≡ None
bytes_in_quotes = refl

number_in_quotes : value_of (dtype.Primitive ptype.I64 NonNullable) (Quoted (codes "1")) ≡ None
number_in_quotes = refl

truth_in_quotes : value_of (dtype.Bool NonNullable) (Quoted (codes "true")) ≡ None
truth_in_quotes = refl

null_in_quotes : optional_value_of (dtype.Null) (Quoted (codes "null")) ≡ None
null_in_quotes = refl

text_in_quotes : value_of (dtype.Utf8 NonNullable) (Quoted (codes "x00")) ≡ Some (value.Utf8 (codes "x00"))
unfolding is_utf8 chars lib.Utf8.encode
text_in_quotes = refl

text_of_no_utf8 : value_of (dtype.Utf8 NonNullable) (Quoted (192 ∷ 128 ∷ [])) ≡ None
unfolding is_utf8 chars lib.Utf8.encode
text_of_no_utf8 = refl

text_without_quotes : value_of (dtype.Utf8 NonNullable) (Plain (codes "a")) ≡ None
text_without_quotes = refl

broken_text : value_of (dtype.Utf8 NonNullable) Broken ≡ None
broken_text = refl

truth : value_of (dtype.Bool NonNullable) (Plain (codes "true")) ≡ Some (value.Bool true)
truth = refl

untruth : value_of (dtype.Bool NonNullable) (Plain (codes "false")) ≡ Some (value.Bool false)
untruth = refl

other_truth : value_of (dtype.Bool NonNullable) (Plain (codes "True")) ≡ None
other_truth = refl

number : value_of (dtype.Primitive ptype.I64 NonNullable) (Plain (codes "-7")) ≡ Some (value.Primitive (pvalue.I64 (negsuc 6)))
number = refl

null_is_no_value : value_of (dtype.Primitive ptype.I64 Nullable) (Plain (codes "null")) ≡ None
null_is_no_value = refl

null_number : optional_value_of (dtype.Primitive ptype.I64 Nullable) (Plain (codes "null")) ≡ Some None
null_number = refl

null_without_mark : optional_value_of (dtype.Primitive ptype.I64 NonNullable) (Plain (codes "null")) ≡ None
null_without_mark = refl

null_truth : optional_value_of (dtype.Bool Nullable) (Plain (codes "null")) ≡ Some None
null_truth = refl

null_bytes : optional_value_of (dtype.Binary Nullable) (Plain (codes "null")) ≡ Some None
null_bytes = refl

null_text : optional_value_of (dtype.Utf8 Nullable) (Plain (codes "null")) ≡ Some None
null_text = refl

text_null : optional_value_of (dtype.Utf8 Nullable) (Quoted (codes "null")) ≡ Some (Some (value.Utf8 (codes "null")))
unfolding is_utf8 chars lib.Utf8.encode
text_null = refl

null_column : optional_value_of dtype.Null (Plain (codes "null")) ≡ Some None
null_column = refl

other_null : optional_value_of dtype.Null (Plain (codes "0")) ≡ None
other_null = refl

some_number : optional_value_of (dtype.Primitive ptype.I64 Nullable) (Plain (codes "7")) ≡ Some (Some (value.Primitive (pvalue.I64 (pos 7))))
some_number = refl

-- ---- statistics

stat_min : stat_of (codes "min") ≡ Some stat.Min
stat_min = refl

stat_max : stat_of (codes "max") ≡ Some stat.Max
stat_max = refl

stat_null_count : stat_of (codes "null_count") ≡ Some stat.NullCount
stat_null_count = refl

stat_sum : stat_of (codes "sum") ≡ Some stat.Sum
stat_sum = refl

stat_uncompressed_size_in_bytes : stat_of (codes "uncompressed_size_in_bytes") ≡ Some stat.UncompressedSizeInBytes
stat_uncompressed_size_in_bytes = refl

stat_is_constant : stat_of (codes "is_constant") ≡ Some stat.IsConstant
stat_is_constant = refl

stat_is_sorted : stat_of (codes "is_sorted") ≡ Some stat.IsSorted
stat_is_sorted = refl

stat_is_strict_sorted : stat_of (codes "is_strict_sorted") ≡ Some stat.IsStrictSorted
stat_is_strict_sorted = refl

stat_nan_count : stat_of (codes "nan_count") ≡ Some stat.NaNCount
stat_nan_count = refl

other_stat : stat_of (codes "Min") ≡ None
other_stat = refl

exact_value : precision_of (codes "exact") (value.Bool true) ≡ Some (Exact (value.Bool true))
exact_value = refl

inexact_value : precision_of (codes "inexact") (value.Bool true) ≡ Some (Inexact (value.Bool true))
inexact_value = refl

other_precision : precision_of (codes "about") (value.Bool true) ≡ None
other_precision = refl

claim_of_a_bound : claimed ((codes "a", dtype.Primitive ptype.I8 Nullable) ∷ (codes "b", dtype.Bool NonNullable) ∷ []) ((Plain (codes "a")) ∷ (Plain (codes "max")) ∷ (Plain (codes "exact")) ∷ []) ≡ Some ((0, stat.Max, dtype.Primitive ptype.I8 Nullable), (Plain (codes "exact")) ∷ [])
claim_of_a_bound = refl

claim_of_a_count : claimed ((codes "a", dtype.Primitive ptype.I8 Nullable) ∷ (codes "b", dtype.Bool NonNullable) ∷ []) ((Plain (codes "b")) ∷ (Plain (codes "null_count")) ∷ []) ≡ Some ((1, stat.NullCount, dtype.Primitive ptype.U64 NonNullable), [])
claim_of_a_count = refl

claim_of_no_column : claimed ((codes "a", dtype.Primitive ptype.I8 Nullable) ∷ (codes "b", dtype.Bool NonNullable) ∷ []) ((Plain (codes "c")) ∷ (Plain (codes "max")) ∷ []) ≡ None
claim_of_no_column = refl

claim_in_quotes : claimed ((codes "a", dtype.Primitive ptype.I8 Nullable) ∷ (codes "b", dtype.Bool NonNullable) ∷ []) ((Quoted (codes "a")) ∷ (Plain (codes "max")) ∷ []) ≡ None
claim_in_quotes = refl

claim_of_no_type : claimed ((codes "a", dtype.Primitive ptype.I8 Nullable) ∷ (codes "b", dtype.Bool NonNullable) ∷ []) ((Plain (codes "b")) ∷ (Plain (codes "nan_count")) ∷ []) ≡ None
claim_of_no_type = refl

exact_count : claimed_value (dtype.Primitive ptype.U64 NonNullable) ((Plain (codes "exact")) ∷ (Plain (codes "3")) ∷ []) ≡ Some (Exact (value.Primitive (pvalue.U64 3)))
exact_count = refl

inexact_count : claimed_value (dtype.Primitive ptype.U64 NonNullable) ((Plain (codes "inexact")) ∷ (Plain (codes "3")) ∷ []) ≡ Some (Inexact (value.Primitive (pvalue.U64 3)))
inexact_count = refl

count_and_more : claimed_value (dtype.Primitive ptype.U64 NonNullable) ((Plain (codes "exact")) ∷ (Plain (codes "3")) ∷ (Plain (codes "3")) ∷ []) ≡ None
count_and_more = refl

null_count_of_null : claimed_value (dtype.Primitive ptype.U64 NonNullable) ((Plain (codes "exact")) ∷ (Plain (codes "null")) ∷ []) ≡ None
null_count_of_null = refl

count_in_quotes : claimed_value (dtype.Primitive ptype.U64 NonNullable) ((Plain (codes "exact")) ∷ (Quoted (codes "3")) ∷ []) ≡ None
count_in_quotes = refl

-- ---- the words of expressions

operator_eq : operator_of (codes "eq") ≡ Some operator.Eq
operator_eq = refl

form_eq : form_of (codes "eq") ≡ Some (form.Binary operator.Eq)
form_eq = refl

operator_ne : operator_of (codes "ne") ≡ Some operator.NotEq
operator_ne = refl

form_ne : form_of (codes "ne") ≡ Some (form.Binary operator.NotEq)
form_ne = refl

operator_gt : operator_of (codes "gt") ≡ Some operator.Gt
operator_gt = refl

form_gt : form_of (codes "gt") ≡ Some (form.Binary operator.Gt)
form_gt = refl

operator_ge : operator_of (codes "ge") ≡ Some operator.Gte
operator_ge = refl

form_ge : form_of (codes "ge") ≡ Some (form.Binary operator.Gte)
form_ge = refl

operator_lt : operator_of (codes "lt") ≡ Some operator.Lt
operator_lt = refl

form_lt : form_of (codes "lt") ≡ Some (form.Binary operator.Lt)
form_lt = refl

operator_le : operator_of (codes "le") ≡ Some operator.Lte
operator_le = refl

form_le : form_of (codes "le") ≡ Some (form.Binary operator.Lte)
form_le = refl

operator_and : operator_of (codes "and") ≡ Some operator.And
operator_and = refl

form_and : form_of (codes "and") ≡ Some (form.Binary operator.And)
form_and = refl

operator_or : operator_of (codes "or") ≡ Some operator.Or
operator_or = refl

form_or : form_of (codes "or") ≡ Some (form.Binary operator.Or)
form_or = refl

form_like : form_of (codes "like") ≡ Some (form.Like (record { negated = false; case_insensitive = false }))
form_like = refl

form_notlike : form_of (codes "notlike") ≡ Some (form.Like (record { negated = true; case_insensitive = false }))
form_notlike = refl

form_ilike : form_of (codes "ilike") ≡ Some (form.Like (record { negated = false; case_insensitive = true }))
form_ilike = refl

form_notilike : form_of (codes "notilike") ≡ Some (form.Like (record { negated = true; case_insensitive = true }))
form_notilike = refl

form_col : form_of (codes "col") ≡ Some form.Column
form_col = refl

form_lit : form_of (codes "lit") ≡ Some form.Literal
form_lit = refl

form_between : form_of (codes "between") ≡ Some form.Between
form_between = refl

form_isnull : form_of (codes "isnull") ≡ Some form.IsNull
form_isnull = refl

form_notnull : form_of (codes "notnull") ≡ Some form.IsNotNull
form_notnull = refl

form_not : form_of (codes "not") ≡ Some form.Not
form_not = refl

other_form : form_of (codes "xor") ≡ None
other_form = refl

strict_end : strictness_of (codes "<") ≡ Some Strict
strict_end = refl

closed_end : strictness_of (codes "<=") ≡ Some NonStrict
closed_end = refl

other_end : strictness_of (codes ">") ≡ None
other_end = refl

expression_begins : begins_expression ((Plain (codes "lit")) ∷ []) ≡ true
expression_begins = refl

name_begins_none : begins_expression ((Plain (codes "a")) ∷ (Plain (codes "lit")) ∷ []) ≡ false
name_begins_none = refl

quotes_begin_none : begins_expression ((Quoted (codes "lit")) ∷ []) ≡ false
quotes_begin_none = refl

nothing_begins_none : begins_expression [] ≡ false
nothing_begins_none = refl

-- ---- what takes memory

plain_is_not_copied : is_copied (Plain (codes "a")) ≡ false
plain_is_not_copied = refl

text_is_copied : is_copied (Quoted (codes "a")) ≡ true
text_is_copied = refl

empty_text_is_not_copied : is_copied (Quoted []) ≡ false
empty_text_is_not_copied = refl

broken_is_copied : is_copied Broken ≡ true
broken_is_copied = refl

first_alone_is_copied : first_is_copied ((Plain (codes "a")) ∷ (Quoted (codes "a")) ∷ []) ≡ false
first_alone_is_copied = refl

first_text_is_copied : first_is_copied ((Quoted (codes "a")) ∷ (Plain (codes "a")) ∷ []) ≡ true
first_text_is_copied = refl

digits_make_bytes : makes_bytes (dtype.Binary NonNullable) (Plain (codes "x00")) ≡ true
digits_make_bytes = refl

no_digits_make_none : makes_bytes (dtype.Binary NonNullable) (Plain (codes "x")) ≡ false
no_digits_make_none = refl

one_digit_makes_none : makes_bytes (dtype.Binary NonNullable) (Plain (codes "x0")) ≡ false
one_digit_makes_none = refl

null_makes_no_bytes : makes_bytes (dtype.Binary Nullable) (Plain (codes "null")) ≡ false
null_makes_no_bytes = refl

numbers_make_no_bytes : makes_bytes (dtype.Primitive ptype.I64 NonNullable) (Plain (codes "x00")) ≡ false
numbers_make_no_bytes = refl

quotes_make_no_bytes : makes_bytes (dtype.Binary NonNullable) (Quoted (codes "x00")) ≡ false
quotes_make_no_bytes = refl

claimed_text_takes : claim_takes (dtype.Utf8 NonNullable) ((Plain (codes "exact")) ∷ (Quoted (codes "a")) ∷ []) ≡ true
claimed_text_takes = refl

claimed_bytes_take : claim_takes (dtype.Binary NonNullable) ((Plain (codes "exact")) ∷ (Plain (codes "x00")) ∷ []) ≡ true
claimed_bytes_take = refl

claimed_number_takes_none : claim_takes (dtype.Primitive ptype.I64 NonNullable) ((Plain (codes "exact")) ∷ (Plain (codes "7")) ∷ (Quoted (codes "a")) ∷ []) ≡ false
claimed_number_takes_none = refl

claim_without_precision : claim_takes (dtype.Utf8 NonNullable) ((Quoted (codes "exact")) ∷ (Quoted (codes "a")) ∷ []) ≡ false
claim_without_precision = refl
