-- Worked rows of tests and of strict predicates, found by computation alone.
use Rattle.std.proofs.Common.{refl}
use Rattle.std.specs.Str.{chars}
use Rattle.vortex_normal.specs.Pushed.{all_of, any_of, comparison, comparison_of, folded, liked, settled}
use Rattle.vortex_normal.specs.WorkedTests.{StrictExamples, TestExamples}

pub test_examples : TestExamples
test_examples = record {
  true_is_true = refl;
  false_is_not_true = refl;
  null_is_not_true = refl;
  null_counts = refl;
  false_is_false = refl;
  true_is_not_false = refl;
  null_is_not_false = refl;
  column_true = refl;
  column_false = refl;
  column_not_true = refl;
  column_not_false = refl;
  literal_true = refl;
  literal_not_true = refl;
  statistic_false = refl;
  statistic_not_false = refl;
  comparison_true = refl;
  comparison_false = refl;
  comparison_not_true = refl;
  comparison_not_false = refl;
  columns_not_true = refl;
  and_true = refl;
  and_false = refl;
  and_not_true = refl;
  and_not_false = refl;
  or_true = refl;
  or_false = refl;
  or_not_true = refl;
  or_not_false = refl;
  not_true = refl;
  not_false = refl;
  not_not_true = refl;
  range_true = refl;
  range_false = refl;
  range_not_true = refl;
  range_not_false = refl;
  like_true = refl;
  like_not_true = refl;
  is_true = refl;
  is_false = refl;
  is_other = refl;
  is_true_false = refl;
  is_false_not_true = refl;
  truth_first = refl;
  truth_first_below = refl;
  either_truth = refl;
  beside_null = refl;
  column_is_true = refl;
  two_predicates = refl;
  chain_is_true = refl;
  column_null = refl;
  column_null_false = refl;
  column_valued = refl;
  column_valued_false = refl;
  predicate_null = refl;
  predicate_null_false = refl;
  predicate_valued = refl;
  predicate_valued_false = refl;
  number_null = refl;
  no_level = refl;
  one_level = refl;
  wanted_equal = λ x. refl;
  wanted_other = (refl, refl);
  wanted_above = (refl, refl);
  wanted_from = (refl, refl);
  wanted_below = (refl, refl);
  wanted_up_to = (refl, refl);
  wanted_by_connective = λ x. (refl, refl);
}

pub strict_examples : StrictExamples
unfolding all_of any_of comparison comparison_of folded liked settled chars lib.Utf8.encode
strict_examples = record {
  one = refl;
  number_first = refl;
  ranged = refl;
  matched = refl;
  either_value = refl;
  both_values = refl;
  two_columns = refl;
  either_column = refl;
  below_another = refl;
  beside_null = refl;
  of_columns = refl;
  of_column_ends = refl;
  of_upper_column = refl;
  null_alone = refl;
  valued_alone = refl;
  truth_alone = refl;
  numbers_alone = refl;
  other_types = refl;
  negated = refl;
  test_true = refl;
  test_not_true = refl;
  test_of_range = refl;
  test_of_null = refl;
  test_of_valued = refl;
  test_of_truth = refl;
}
