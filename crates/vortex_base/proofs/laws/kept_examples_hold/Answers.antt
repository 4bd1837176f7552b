use Rattle.std.proofs.Common.{refl}
use Rattle.std.specs.Str.{chars, is_utf8}
use Rattle.vortex_base.proofs.laws.kept_examples_hold.Goals as goal

pub returns-clause-natives : goal.returns-clause-natives
returns-clause-natives c = record {
  there_or_null = refl;
  none = refl;
  flags_end_first = refl;
  values_end_first = refl;
  one_at_a_place = refl;
  null_at_a_place = refl;
  past_the_end = refl;
}

pub returns-clause-blobs : goal.returns-clause-blobs
unfolding chars is_utf8 lib.Utf8.encode
returns-clause-blobs c = record {
  three = refl;
  empty_ones = refl;
  flags_end_first = refl;
  in_order = refl;
  no_ends = refl;
  bytes_without_an_end = refl;
  fall = refl;
  last_is_short = refl;
  last_is_long = refl;
  first_begins = refl;
  second_begins = refl;
  next_begins = refl;
  one_at_a_place = refl;
  null_at_a_place = refl;
  past_the_end = refl;
  texts = refl;
  half_a_character = refl;
}

pub returns-clause-cells : goal.returns-clause-cells
returns-clause-cells c = record {
  nulls = refl;
  truths = refl;
  of_u8 = refl;
  of_u16 = refl;
  of_u32 = refl;
  of_u64 = refl;
  of_i8 = refl;
  of_i16 = refl;
  of_i32 = refl;
  of_i64 = refl;
  texts = refl;
  byte_strings = refl;
  short_null = refl;
  short_truth = refl;
  short_u8 = refl;
  short_u16 = refl;
  short_u32 = refl;
  short_u64 = refl;
  short_i8 = refl;
  short_i16 = refl;
  short_i32 = refl;
  short_i64 = refl;
}
