-- Worked rows of consequences of comparisons of columns, found by computation alone.
use Rattle.std.proofs.Common.{refl}
use Rattle.std.specs.Str.{chars}
use Rattle.vortex_normal.specs.Pushed.{all_of, any_of, comparison, comparison_of, folded, liked, settled}
use Rattle.vortex_normal.specs.WorkedLinks.{LinkExamples}

pub link_examples : LinkExamples
unfolding all_of any_of comparison comparison_of folded liked settled chars lib.Utf8.encode
link_examples = record {
  behind_equal = (refl, refl, refl, refl, refl, refl, refl, refl);
  behind_unequal = (refl, refl, refl, refl, refl, refl, refl, refl);
  behind_greater = (refl, refl, refl, refl, refl, refl, refl, refl);
  behind_at_least = (refl, refl, refl, refl, refl, refl, refl, refl);
  behind_less = (refl, refl, refl, refl, refl, refl, refl, refl);
  behind_at_most = (refl, refl, refl, refl, refl, refl, refl, refl);
  behind_and = (refl, refl, refl, refl, refl, refl, refl, refl);
  behind_or = (refl, refl, refl, refl, refl, refl, refl, refl);
  above = refl;
  above_first = refl;
  below = refl;
  number_first = refl;
  columns_turned = refl;
  in_range = refl;
  below_range = refl;
  equal_to_range = refl;
  unequal = refl;
  from_both = refl;
  other_way = refl;
  not_by_unequal = refl;
  other_column = refl;
  other_type = refl;
  other_kind = refl;
  three_columns = refl;
  three_at_most = refl;
  listed_backward = refl;
  three_unequal = refl;
  beside_one_column = refl;
  below_itself = refl;
  at_most_itself = refl;
  equal_alone = refl;
  of_either = refl;
  below_or = refl;
  eight_comparisons = refl;
  ninth_comparison = refl;
  many_bounds = refl;
  more_bounds = refl;
  many_consequences = refl;
  joins_none = refl;
  joins_one = refl;
  joins_two = refl;
  at_the_top = refl;
  below_an_or = refl;
  contradiction = refl;
  between_columns = refl;
  both_ways = refl;
  both_ways_at_most = refl;
}
