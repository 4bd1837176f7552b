-- The worked rows, by computing.
use Rattle.std.proofs.Common.{◌≡◌, ◌||◌, ℕ, List, [], ap, bytes_eq, false, refl, true}
use Rattle.vortex_base.specs.Data.Scopes.{bytes_eq_is_exact}
use Rattle.vortex_sql.specs.Lowering.{leaf_name}
use Rattle.std.specs.Prelude.{None, Ok, Option, Some, pos}
use Rattle.vortex_expr.specs.declared.scalar_fn.Operator.TheVariants as operator
use Rattle.vortex_logical.specs.Meaning.{Fraction}
use Rattle.vortex_logical.specs.declared.comparison.Comparison.{Comparison}
use Rattle.vortex_logical.specs.declared.comparison.Comparison.TheVariants as comparison
use Rattle.vortex_logical.specs.declared.logical_type.ExactKind.TheVariants.{Clock, Instant, TimeOfDay}
use Rattle.vortex_sql.specs.Readings.{Reading, any_of, compare, compare_typed, distinct_typed, joined_by, reading, with_member}
use Rattle.vortex_floats.specs.Nearest.{nearest_over}
use Rattle.vortex_logical.specs.declared.float_type.FloatType.TheVariants as float
use Rattle.vortex_sql.specs.declared.syntax.tree.Test.TheVariants as test
use Rattle.vortex_sql.specs.Typing.{scaled, typed_bits, typed_text}
use Rattle.vortex_sql.specs.declared.syntax.tree.Operand.{Operand}
use Rattle.vortex_sql.specs.Worked.{called, clock, d, dated, m, t, z, ReadingExamples, OtherReadings, OrderExamples, TruthExamples, TextReadings, TypedReadings, TypedTruths, PatternExamples, LeafNames, FloatReadings, FloatCells, half, measured, one_and_half, x}

pub readings : ReadingExamples
readings = record {
  in_range = refl;
  at_most = refl;
  eq_above = refl;
  not_eq_above = refl;
  gt_above = refl;
  gte_above = refl;
  lt_above = refl;
  lte_above = refl;
  eq_below = refl;
  not_eq_below = refl;
  gt_below = refl;
  gte_below = refl;
  lt_below = refl;
  lte_below = refl;
  signed_least = refl;
  signed_below = refl;
  signed_eq_below = refl;
  signed_gt_below = refl;
  signed_above = refl;
  signed_lt_above = refl;
  eq_fraction = refl;
  not_eq_fraction = refl;
  gt_fraction = refl;
  gte_fraction = refl;
  lt_fraction = refl;
  lte_fraction = refl;
  fraction_first = refl;
  literal_first = refl;
  misfit = refl;
  misfit_first = refl;
  other_width = refl;
  same_type = refl;
  other_kind = refl;
  no_column = refl;
  no_column_behind = refl;
  no_operand = refl;
  no_operand_first = refl;
  with_null = refl;
  with_null_first = refl;
  other_with_null = refl;
  no_column_null = refl;
  nulls = refl;
  one_is_one = refl;
  one_below_two = refl;
  two_below_one = refl;
  truths = refl;
  texts = refl;
  binaries = refl;
  kinds = refl;
}

pub other_readings : OtherReadings
other_readings = record {
  truth_column = refl;
  no_truth = refl;
  truth_of_number = refl;
  literal_truth = refl;
  null_truth = refl;
  other_truth = refl;
  null_test = refl;
  null_of_null = refl;
  null_of_number = refl;
  null_of_other = refl;
  distinct = refl;
  distinct_first = refl;
  distinct_null = refl;
  distinct_null_first = refl;
  distinct_columns = refl;
  distinct_nulls = refl;
  distinct_from_null = refl;
  null_distinct = refl;
  distinct_numbers = refl;
  distinct_misfit = refl;
  between = refl;
  between_misfit = refl;
  between_unread = refl;
  symmetric = refl;
  in_one = refl;
  in_three = refl;
  in_other = refl;
  in_misfit = refl;
  like_null = refl;
  like_number = refl;
  like_column = refl;
  like_escaped = refl;
  other = refl;
}

pub orders : OrderExamples
orders = record {
  truths = refl;
  truths_turned = refl;
  numbers = refl;
  number_below_fraction = refl;
  number_above_fraction = refl;
  below_zero = refl;
  fractions = refl;
  same_fractions = refl;
  clocks = refl;
  instants = refl;
  times = refl;
  clock_and_instant = refl;
  instant_and_clock = refl;
  clock_and_number = refl;
  number_and_time = refl;
  texts = refl;
  binaries = refl;
  kinds = refl;
  kinds_turned = refl;
  flipped_gt = refl;
  flipped_gte = refl;
  flipped_lt = refl;
  flipped_lte = refl;
  flipped_eq = refl;
  flipped_not_eq = refl;
}

pub truths : TruthExamples
truths = record {
  greater = refl;
  greater_turned = refl;
  above_all = refl;
  above_null = refl;
  null_first = refl;
  null_behind = refl;
  other_width = refl;
  above_fraction = refl;
  below_fraction = refl;
  fraction_first = refl;
  no_fraction = refl;
  other_than_fraction = refl;
  distinct_values = refl;
  distinct_same = refl;
  distinct_null = refl;
  distinct_from_null = refl;
  distinct_nulls = refl;
  in_first = refl;
  in_last = refl;
  in_null = refl;
  in_none = refl;
  null_in = refl;
  between_ends = refl;
  between_below = refl;
  between_above = refl;
  between_turned = refl;
  below = refl;
  between_null = refl;
  symmetric = refl;
  symmetric_below = refl;
  is_null = refl;
  is_not_null = refl;
  truth_column = refl;
  truth_null = refl;
  like_null = refl;
  like_null_pattern = refl;
  known_true = refl;
  known_not_true = refl;
  unknown_not_true = refl;
  known_false = refl;
  known_not_false = refl;
  unknown_not_false = refl;
}

pub patterns : PatternExamples
patterns = record {
  as_it_is = refl;
  marked = refl;
  marked_itself = refl;
  marked_last = refl;
  backslash_plain = refl;
  backslash_marked = refl;
  none_marks = refl;
}

pub typed_readings : TypedReadings
typed_readings = record {
  day = refl;
  within_day = refl;
  day_first = refl;
  past_days = refl;
  micros = refl;
  finer = refl;
  millis = refl;
  clock_of_instant = refl;
  instant_of_clock = refl;
  time = refl;
  raw_number = refl;
  raw_instant = refl;
  number_as_clock = refl;
  two_clocks = refl;
  fractions = refl;
  fractions_behind = refl;
  two_types = refl;
  same_types = refl;
  raw_column = refl;
  null_day = refl;
  longest = refl;
  too_long = refl;
}

pub typed_truths : TypedTruths
typed_truths = record {
  at_day = refl;
  before_noon = refl;
  after_noon = refl;
  number_beside_day = refl;
  same_cells = refl;
  same_zones = refl;
  same_days = refl;
  days_and_seconds = refl;
  text_beside_text = refl;
  text_beside_number = refl;
  number_beside_column = refl;
  text_beside_decimal = λ x. refl;
}

-- a comparison with a text, by what the text is read as
abbrev by_clock : Comparison → Operand → ℕ → Option Fraction → Reading
by_clock c x scale o = compare_typed dated c x (typed_text (scaled Clock scale o))

abbrev by_first : Comparison → Option Fraction → Reading
by_first c o = compare_typed dated c (typed_text (scaled Clock 0 o)) d

abbrev by_member : Option Fraction → Reading
by_member o = any_of (with_member (Ok (Some [])) (by_clock comparison.Eq d 0 o))

abbrev by_between : Option Fraction → Reading
by_between o = joined_by operator.And (by_clock comparison.Gte d 0 o) (compare dated comparison.Lte d (clock (pos 172_800) 0))

abbrev by_distinct : Option Fraction → Reading
by_distinct o = distinct_typed dated (typed_text (scaled Clock 0 o)) d

abbrev by_instant : Option Fraction → Reading
by_instant o = compare_typed dated comparison.Gte z (typed_text (scaled Instant 9 o))

abbrev by_time : Option Fraction → Reading
by_time o = compare_typed dated comparison.Gte m (typed_text (scaled TimeOfDay 9 o))

pub text_readings : TextReadings
text_readings = record {
  day = λ h. ap (by_clock comparison.Gte d 0) h;
  day_behind = λ h. ap (by_first comparison.Gte) h;
  no_day = λ h. ap (by_clock comparison.Gte d 0) h;
  days = λ h. ap by_between h;
  in_days = λ h. ap by_member h;
  distinct = λ h. ap by_distinct h;
  timestamp = λ h. ap (by_clock comparison.Gte t 9) h;
  instant = λ h. ap by_instant h;
  time = λ h. ap by_time h;
}

same_bytes : (n : List ℕ) → bytes_eq n n ≡ true
same_bytes n = (bytes_eq_is_exact n n).1 refl

pub leaf_names : LeafNames
leaf_names = record {
  name = refl;
  past_end = refl;
  turned = refl;
  behind = refl;
  taken = ap (λ b. (b || false) || false) (same_bytes (leaf_name called (0, 3)));
  no_leaf = refl;
  fit = refl;
  no_truth = refl;
  other_type = refl;
  no_column = refl;
  statistic = refl;
}

float_typed : (o : Option ℕ) → nearest_over float.F64 (pos 15) 1 ≡ o → reading measured (test.Compare comparison.Lt x (half (pos 15))) ≡ compare_typed measured comparison.Lt x (typed_bits o)
float_typed o h = ap (λ b. compare_typed measured comparison.Lt x (typed_bits b)) h

pub float_readings : FloatReadings
float_readings = record {
  lt = refl;
  lte = refl;
  equal = refl;
  not_equal = refl;
  below_zero = refl;
  gt_unsaid = refl;
  gte_unsaid = refl;
  turned = refl;
  gt_greatest = refl;
  gt_ieee = refl;
  lt_ieee = refl;
  nan = refl;
  short = refl;
  narrow = refl;
  with_null = refl;
  with_other = refl;
  with_truth = refl;
  with_text = refl;
  with_clock = refl;
  too_long = refl;
  two_columns = refl;
  null_test = refl;
  between = refl;
  between_ieee = refl;
  between_null = refl;
  between_nan = refl;
  number = λ h. float_typed (Some one_and_half) h;
  no_float = λ h. float_typed None h;
}

pub float_cells : FloatCells
float_cells = record {
  same_floats = refl;
  floats_and_values = refl;
  values_and_floats = refl;
  dates_and_floats = refl;
  values = refl;
  cell = refl;
  below_zero = refl;
  ordered_unsaid = refl;
  ordered_said = refl;
  ordered_values = refl;
  ordered_dates = refl;
  unsaid = refl;
  meant = refl;
  literal = refl;
  two_literals = refl;
  held = refl;
  held_ieee = refl;
  held_turned = refl;
}
