use Rattle.std.proofs.Common.{refl}
use Rattle.std.specs.Str.{chars, is_utf8}
use Rattle.vortex_base.proofs.laws.examples_hold.Goals as goal

pub returns-clause-types : goal.returns-clause-types
returns-clause-types c = record {
  null_has_null = refl;
  plain_has_none = refl;
  state_has_null = refl;
  null_is_its_own = refl;
  with_null = refl;
  equal_but_null = refl;
  other_width = refl;
}

pub returns-clause-values : goal.returns-clause-values
unfolding chars is_utf8 lib.Utf8.encode
returns-clause-values c = record {
  of_the_width = refl;
  of_another_width = refl;
  too_great = refl;
  greatest_u8 = refl;
  least_i8 = refl;
  too_small = refl;
  a_text = refl;
  no_text = refl;
  any_bytes = refl;
  text_is_not_bytes = refl;
  null_alone = refl;
  no_state = refl;
  null_state = refl;
  no_null = refl;
}

pub returns-clause-order : goal.returns-clause-order
returns-clause-order c = record {
  false_first = refl;
  below_zero = refl;
  by_type_first = refl;
  u64_before_i8 = refl;
  shorter_first = refl;
  bytes_before_length = refl;
  by_bytes = refl;
  kinds_in_order = refl;
  same = refl;
}

pub returns-clause-scopes : goal.returns-clause-scopes
returns-clause-scopes c = record {
  none = refl;
  twice = refl;
  state = refl;
  twice_before_state = refl;
  two = refl;
  second = refl;
  absent = refl;
}

pub returns-clause-chunks : goal.returns-clause-chunks
returns-clause-chunks c = record {
  null_in_plain = refl;
  null_where_allowed = refl;
  no_rows = refl;
  too_few = refl;
  unequal = refl;
  shape_first = refl;
  other_type = refl;
  null_apart = refl;
  the_row = refl;
}
