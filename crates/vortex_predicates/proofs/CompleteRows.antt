-- Worked predicates that bounds decide, found by computation alone.
use Rattle.std.proofs.Common.{refl}
use Rattle.std.specs.Str.{chars}
use Rattle.vortex_normal.specs.Pushed.{all_of, any_of, comparison, comparison_of, folded, liked, settled}
use Rattle.vortex_predicates.specs.WorkedComplete.{CompleteExamples}

pub complete_examples : CompleteExamples
unfolding all_of any_of comparison comparison_of folded liked settled chars lib.Utf8.encode
complete_examples = record {
  one_comparison = refl;
  two_columns = refl;
  shared_first = refl;
  shared_second = refl;
  shares_first = refl;
  shares_second = refl;
  of_other_columns = refl;
  shared_within_left = refl;
  shared_within_right = refl;
  shared_below_an_and = refl;
  or_shares = refl;
  or_shares_all = refl;
  of_columns = refl;
  of_itself = refl;
  of_itself_settled = refl;
  left_column_shared = refl;
  right_column_shared = refl;
  one_column = refl;
  one_column_twice = refl;
  given_alone = refl;
  given_needs_no_level = refl;
  form_alone = refl;
  form_needs_levels = refl;
  form_within_levels = refl;
  always = refl;
  never = refl;
  null = refl;
  null_settled = refl;
  null_end = refl;
  null_before = refl;
  null_end_settled = refl;
  of_literals = refl;
  null_test = refl;
  value_test = refl;
  or_null = refl;
  every_value = refl;
  unsettled_value = refl;
  ranged = refl;
  of_texts = refl;
  between_texts = refl;
  beginning = refl;
  other_pattern = refl;
  any_case = refl;
  no_text = refl;
  statistic = refl;
  of_rows = refl;
}
