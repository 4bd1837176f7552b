use Rattle.std.proofs.Common.{refl}
use Rattle.std.specs.Str.{chars}
use Rattle.vortex_expr.proofs.laws.expression_examples_hold.Goals as goal

pub returns-clause-like : goal.returns-clause-like
unfolding chars
returns-clause-like c = record {
  read = refl;
  read_escapes = refl;
  read_lone_escape = refl;
  run_and_one = refl;
  run_goes_back = refl;
  escaped_run = refl;
  escaped_run_is_literal = refl;
  lone_escape = refl;
  one_is_not_none = refl;
  run_may_be_empty = refl;
  empty_matches_empty = refl;
  empty_matches_no_more = refl;
  one_of_two_bytes = refl;
  not_two_of_two_bytes = refl;
  ascii_case = refl;
  ascii_case_of_the_text = refl;
  case_regarded = refl;
  other_case = refl;
  case_of_the_text_regarded = refl;
  negated = refl;
}

pub returns-clause-connectives : goal.returns-clause-connectives
returns-clause-connectives c = record {
  and = refl;
  or = refl;
  operator_of_and = refl;
  operator_of_or = refl;
  and_for_true = refl;
  and_for_false = refl;
  or_for_true = refl;
  or_for_false = refl;
}

pub returns-clause-typing : goal.returns-clause-typing
returns-clause-typing c = record {
  comparison = refl;
  comparison_with_null = refl;
  comparison_of_nulls = refl;
  comparison_of_widths = refl;
  comparison_of_states = refl;
  conjunction = refl;
  conjunction_with_null = refl;
  conjunction_of_numbers = refl;
  disjunction_with_null = refl;
  range = refl;
  range_with_null = refl;
  range_of_widths = refl;
  range_of_states = refl;
  null_test = refl;
  null_test_of_state = refl;
  negation = refl;
  negation_of_number = refl;
  pattern = refl;
  pattern_of_bytes = refl;
  greatest = refl;
  no_greatest = refl;
  null_count = refl;
  rows = refl;
}

pub returns-clause-aggregates : goal.returns-clause-aggregates
returns-clause-aggregates c = record {
  least_text = refl;
  least_state = refl;
  both_ends = refl;
  both_ends_of_null = refl;
  signed_sum = refl;
  unsigned_sum = refl;
  sum_of_truths = refl;
  sum_of_texts = refl;
  nulls = refl;
  size = refl;
  no_value = refl;
  no_null = refl;
  no_number = refl;
}

pub returns-clause-binding : goal.returns-clause-binding
returns-clause-binding c = record {
  by_name = refl;
  left_child_first = refl;
  right_child_first = refl;
  children_first = refl;
  other_width = refl;
  unsupported_first = refl;
  in_placeholder = refl;
}

pub returns-clause-meaning : goal.returns-clause-meaning
returns-clause-meaning c = record {
  null_and_false = refl;
  null_and_true = refl;
  null_or_false = refl;
  true_or_null = refl;
  not_null = refl;
  not_true = refl;
  null_equals_null = refl;
  null_is_null = refl;
  null_is_not_null = refl;
  closed_at_its_end = refl;
  open_at_its_lower_end = refl;
  open_at_its_upper_end = refl;
  null_end_and_missed_end = refl;
  null_end_and_met_end = refl;
  rows = refl;
  a_on_a_row = refl;
  no_column = refl;
  column_with_null = refl;
  column_of_another_type = refl;
  placeholder_first = refl;
  scope_of_the_type = refl;
  scope_of_the_type_but_null = refl;
  plain_column = refl;
  closed_rows = refl;
  not_plain_rows = refl;
}
