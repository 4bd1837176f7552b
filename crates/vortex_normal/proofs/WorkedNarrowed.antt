-- Worked rows of narrowed predicates, found by computation alone.
use Rattle.std.proofs.Common.{refl}
use Rattle.std.specs.Str.{chars}
use Rattle.vortex_normal.specs.Pushed.{all_of, any_of, comparison, comparison_of, folded, liked, settled}
use Rattle.vortex_normal.specs.WorkedNarrowed.{NarrowedExamples}

pub narrowed_examples : NarrowedExamples
unfolding all_of any_of comparison comparison_of folded liked settled chars lib.Utf8.encode
narrowed_examples = record {
  by_comparison = refl;
  by_number_first = refl;
  by_unequal = refl;
  by_range = refl;
  by_null = refl;
  by_value = refl;
  by_truth = refl;
  not_by_columns = refl;
  not_by_negation = refl;
  not_by_pattern = refl;
  of_range = refl;
  of_null = refl;
  of_value = refl;
  of_number_first = refl;
  fact_behind = refl;
  fact_between = refl;
  leaf_behind = refl;
  both_sides = refl;
  two_facts = refl;
  two_ors = refl;
  one_and = refl;
  one_or = refl;
  not_from_an_or = refl;
  not_for_the_other_side = refl;
  not_behind_the_side = refl;
  another_column = refl;
  other_type = refl;
  below_not = refl;
  twice = refl;
  inner_and = refl;
  inner_fact_first = refl;
  outer_fact_too = refl;
  or_in_or = refl;
  first_of_a_column = refl;
  known_without_or = refl;
  known_in_order = refl;
  known_of_many = refl;
  dropped = refl;
  met = refl;
  left_alone = refl;
  strict_form = refl;
  strict_form_false = refl;
}
