-- Worked rows, found by computation alone.
use Rattle.std.proofs.Common.{◌≡◌, Bool, true, false, refl}
use Rattle.std.specs.Str.{chars}
use Rattle.vortex_normal.specs.Balanced.{balanced, depth}
use Rattle.vortex_normal.specs.Pushed.{all_of, any_of, comparison, comparison_of, folded, liked, settled}
use Rattle.vortex_normal.specs.Worked.{BalancedExamples, FormExamples, five_links}

pub form_examples : FormExamples
unfolding all_of any_of comparison comparison_of folded liked settled chars lib.Utf8.encode
form_examples = record {
  negation = refl;
  of_range = refl;
  contradiction = refl;
  with_range = refl;
  regrouped = refl;
  itself = refl;
  null = refl;
  settled_sides = refl;
  all_values = refl;
  not_null_operand = refl;
  itself_at_most = refl;
  equal = refl;
  equal_by_ranges = refl;
  unequal = refl;
  not_unequal = refl;
  open_ends = refl;
  touching = refl;
  between_two = refl;
  in_order = refl;
  holes = refl;
  covered = refl;
  from_one_end = refl;
  some_touch = refl;
  bridged = refl;
  null_among_values = refl;
  null_beside_values = refl;
  other_between = refl;
  apart = refl;
  literal_first = refl;
  null_and_value = refl;
  some_and_value = refl;
  null_or_not = refl;
  null_or_value = refl;
  inner_chain = refl;
  folded_operand = refl;
  folded_first = refl;
  folded_null = refl;
  folded_end = refl;
  above_greatest = refl;
  not_above_greatest = refl;
  up_to_greatest = refl;
  from_greatest = refl;
  below_greatest = refl;
  other_than_greatest = refl;
  above_but_greatest = refl;
  below_least = refl;
  from_least = refl;
  not_from_least = refl;
  up_to_least = refl;
  above_least = refl;
  equal_to_least = refl;
  below_but_least = refl;
  greatest_below = refl;
  greatest_from = refl;
  greatest_above = refl;
  least_above = refl;
  least_up_to = refl;
  least_below = refl;
  range_from_least = refl;
  range_to_greatest = refl;
  least_signed = refl;
  least_but_one_signed = refl;
  greatest_signed = refl;
  greatest_but_one_signed = refl;
  below_empty_text = refl;
  from_empty_text = refl;
  below_a_text = refl;
  truth_is_false = refl;
  truth_is_true = refl;
  truth_is_not_false = refl;
  truth_is_not_true = refl;
  truth_above_false = refl;
  truth_above_true = refl;
  truth_from_false = refl;
  truth_from_true = refl;
  truth_below_false = refl;
  truth_below_true = refl;
  truth_up_to_false = refl;
  truth_up_to_true = refl;
  false_below = refl;
  true_up_to = refl;
  true_below = refl;
  true_from = refl;
  neither_truth = refl;
  one_text = refl;
  other_text = refl;
  not_other_text = refl;
  escaped = refl;
  last_escape = refl;
  empty_pattern = refl;
  beginning = refl;
  no_beginning = refl;
  escaped_beginning = refl;
  beginning_met = refl;
  beginnings_apart = refl;
  beginnings_touch = refl;
  text_met = refl;
  one_character = refl;
  inner_run = refl;
  two_runs = refl;
  not_two_runs = refl;
  runs_behind_escaped = refl;
  runs_behind_escape = refl;
  run_between = refl;
  character_before_run = refl;
  run_alone = refl;
  runs_alone = refl;
  no_run = refl;
  not_no_run = refl;
  escaped_run = refl;
  run_or_null = refl;
  any_case = refl;
  before_surrogates = refl;
  last_of_all = refl;
}

five_deep : (w : Bool) → depth (balanced w five_links) ≡ 3
unfolding all_of any_of
five_deep true = refl
five_deep false = refl

pub balanced_examples : BalancedExamples
unfolding all_of any_of comparison comparison_of folded liked settled chars lib.Utf8.encode
balanced_examples = record {
  none_paired = λ w. refl;
  one_paired = λ w. refl;
  two_paired_by_and = refl;
  two_paired_by_or = refl;
  three_paired_by_and = refl;
  three_paired_by_or = refl;
  four_paired_by_and = refl;
  four_paired_by_or = refl;
  five_paired_by_and = refl;
  five_paired_by_or = refl;
  none_joined = λ w. refl;
  one_joined = λ w. refl;
  two_joined_by_and = refl;
  two_joined_by_or = refl;
  three_joined_by_and = refl;
  three_joined_by_or = refl;
  four_joined_by_and = refl;
  four_joined_by_or = refl;
  five_joined_by_and = refl;
  five_joined_by_or = refl;
  truths_fall_away = refl;
  untruth_decides = refl;
  untruths_fall_away = refl;
  truth_decides = refl;
  one_turn = refl;
  two_turns = refl;
  first_of_none = refl;
  first_of_two = refl;
  depth_of_leaves = (refl, refl, refl);
  depth_at_the_left = refl;
  depth_at_the_right = refl;
  depth_of_operand = refl;
  depth_of_lower_end = refl;
  depth_of_upper_end = refl;
  depth_of_text = refl;
  depth_of_pattern = refl;
  depth_of_statistic = refl;
  depth_of_five = five_deep;
  four_columns = refl;
  three_tests = refl;
  four_values = refl;
}
