-- Worked predicates and zones with null counts, found by computation alone.
use Rattle.std.proofs.Common.{refl}
use Rattle.std.specs.Str.{chars}
use Rattle.vortex_normal.specs.Pushed.{all_of, any_of, comparison, comparison_of, folded, liked, settled}
use Rattle.vortex_predicates.specs.WorkedNulls.{FarExamples, NullExamples, NullZoneExamples, OneSidedExamples}
use Rattle.vortex_rewrite.specs.Rewriting.Falsifiers.{node, reduce_balanced}

pub null_examples : NullExamples
unfolding all_of any_of comparison comparison_of folded liked settled chars lib.Utf8.encode
null_examples = record {
  comparison = refl;
  or_null = refl;
  or_value = refl;
  null_and_other = refl;
  negated = refl;
  null_of_comparison = refl;
  of_columns = refl;
  ranged = refl;
  pattern = refl;
  shared = refl;
  too_deep = refl;
  whole_comparison = refl;
  whole_or_null = refl;
  whole_and = refl;
  whole_or = refl;
  whole_of_columns = refl;
  whole_pattern = refl;
}

pub null_zone_examples : NullZoneExamples
unfolding all_of any_of comparison comparison_of folded settled node reduce_balanced
null_zone_examples = record {
  all_null = refl;
  some_null = refl;
  some_above = refl;
  no_null = refl;
  one_null = refl;
  null_and_low = refl;
  none_null_and_high = refl;
  null_and_high = refl;
  not_above = refl;
  not_above_null = refl;
  whole = refl;
  not_whole = refl;
  whole_with_null = refl;
  whole_of_nulls = refl;
}

pub one_sided_examples : OneSidedExamples
unfolding all_of any_of comparison comparison_of folded settled node reduce_balanced
one_sided_examples = record {
  above_all = refl;
  above_some = refl;
  above_unknown = refl;
  at_least_all = refl;
  at_least_some = refl;
  below_all = refl;
  below_some = refl;
  below_unknown = refl;
  at_most_all = refl;
  at_most_some = refl;
  equal_below = refl;
  equal_above = refl;
  equal_least = refl;
  equal_greatest = refl;
  differ_both = refl;
  differ_least = refl;
  differ_greatest = refl;
  none_known = refl;
  none_known_below = refl;
  none_known_equal = refl;
  none_known_differ = refl;
  none_known_but_null = refl;
  none_known_but_values = refl;
  none_known_of_nulls = refl;
  null_unread = refl;
  null_satisfies = refl;
  columns_apart = refl;
  columns_meet = refl;
  first_unknown = refl;
  second_unknown = refl;
  range_below = refl;
  range_above = refl;
  range_reached = refl;
  range_reached_from_below = refl;
  all_above = refl;
  not_all_above = refl;
  all_at_least = refl;
  not_all_at_least = refl;
  least_unknown = refl;
  all_differ_above = refl;
  not_all_differ = refl;
  all_below = refl;
  not_all_below = refl;
  all_at_most = refl;
  not_all_at_most = refl;
  greatest_unknown = refl;
  all_differ_below = refl;
  all_but_null = refl;
  all_or_null = refl;
  all_equal = refl;
  least_equal = refl;
  greatest_equal = refl;
  all_in_range = refl;
  least_in_range = refl;
  greatest_in_range = refl;
  all_in_order = refl;
  not_all_in_order = refl;
  order_unknown = refl;
  values_alone = refl;
  above_none_known = refl;
}

pub far_examples : FarExamples
far_examples = record {
  above_past = refl;
  above_at = refl;
  at_least_at = refl;
  at_least_before = refl;
  equal_at = refl;
  equal_before = refl;
  differ_past = refl;
  differ_at = refl;
  turned_past = refl;
  turned_at = refl;
  below_past = refl;
  below_at = refl;
  at_most_at = refl;
  at_most_before = refl;
  equal_from = refl;
  equal_after = refl;
  differ_from = refl;
  differ_only = refl;
  known = refl;
  other_known = refl;
  unread = refl;
  null_test = refl;
  first_before = refl;
  first_at = refl;
  second_after = refl;
  second_at = refl;
  both_unread = refl;
  nulls_beside = refl;
  range_from = refl;
  range_after = refl;
  range_up_to = refl;
  range_before = refl;
  open_from = refl;
  open_at = refl;
  open_up_to = refl;
  open_before = refl;
  and_left = refl;
  and_right = refl;
  or_left = refl;
  or_right = refl;
  or_both = refl;
}
