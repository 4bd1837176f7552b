-- The worked rows hold, by computation.
use Rattle.std.proofs.Common.{refl}
use Rattle.std.proofs.lemmas.Float.Parse.{parse_float_on_literals}
use Rattle.std.specs.Float.Ieee.{eq, of_bits}
use Rattle.std.specs.Fmt.{digits}
use Rattle.vortex_floats.specs.Worked.{CellExamples, NumberExamples}

pub cells_hold : CellExamples
cells_hold = record {
  f16_zero = refl;
  f16_one_up = refl;
  f16_infinity = refl;
  f16_past_infinity = refl;
  f16_before_nan = refl;
  f16_nan = refl;
  f16_past_nan = refl;
  f16_minus_one = refl;
  f16_greatest_below_zero = refl;
  f16_next_below_zero = refl;
  f16_minus_infinity = refl;
  f16_below_minus_infinity = refl;
  f16_clear_zero = refl;
  f16_clear_greatest = refl;
  f16_clear_infinity = refl;
  f16_clear_nan = refl;
  f16_clear_least = refl;
  f16_clear_minus_infinity = refl;
  f16_clear_minus_one = refl;
  f16_clear_minus_two = refl;
  f16_clear_minus_three = refl;
  f16_ieee_gt = refl;
  f16_ieee_gte = refl;
  f16_ieee_lt = refl;
  f16_ieee_eq = refl;
  f16_greatest_gt = refl;
  f16_unsaid_gt = refl;
  f32_zero = refl;
  f32_one_up = refl;
  f32_infinity = refl;
  f32_past_infinity = refl;
  f32_before_nan = refl;
  f32_nan = refl;
  f32_past_nan = refl;
  f32_minus_one = refl;
  f32_greatest_below_zero = refl;
  f32_next_below_zero = refl;
  f32_minus_infinity = refl;
  f32_below_minus_infinity = refl;
  f32_clear_zero = refl;
  f32_clear_greatest = refl;
  f32_clear_infinity = refl;
  f32_clear_nan = refl;
  f32_clear_least = refl;
  f32_clear_minus_infinity = refl;
  f32_clear_minus_one = refl;
  f32_clear_minus_two = refl;
  f32_clear_minus_three = refl;
  f32_ieee_gt = refl;
  f32_ieee_gte = refl;
  f32_ieee_lt = refl;
  f32_ieee_eq = refl;
  f32_greatest_gt = refl;
  f32_unsaid_gt = refl;
  f64_zero = refl;
  f64_one_up = refl;
  f64_infinity = refl;
  f64_past_infinity = refl;
  f64_before_nan = refl;
  f64_nan = refl;
  f64_past_nan = refl;
  f64_minus_one = refl;
  f64_greatest_below_zero = refl;
  f64_next_below_zero = refl;
  f64_minus_infinity = refl;
  f64_below_minus_infinity = refl;
  f64_clear_zero = refl;
  f64_clear_greatest = refl;
  f64_clear_infinity = refl;
  f64_clear_nan = refl;
  f64_clear_least = refl;
  f64_clear_minus_infinity = refl;
  f64_clear_minus_one = refl;
  f64_clear_minus_two = refl;
  f64_clear_minus_three = refl;
  f64_ieee_gt = refl;
  f64_ieee_gte = refl;
  f64_ieee_lt = refl;
  f64_ieee_eq = refl;
  f64_greatest_gt = refl;
  f64_unsaid_gt = refl;
  agreed_eq = refl;
  agreed_noteq = refl;
  agreed_gt = refl;
  agreed_gte = refl;
  agreed_lt = refl;
  agreed_lte = refl;
  unsaid_lt = refl;
  unsaid_gt = refl;
  said_gt = refl;
  one_unsaid = refl;
  one_greatest = refl;
  one_ieee = refl;
  below_one = refl;
  nan_literal = refl;
  infinite_literal = refl;
}

pub numbers_hold : NumberExamples
unfolding parse_float_on_literals of_bits eq digits
numbers_hold = record {
  text = λ x top scale. rw (top, scale) refl;
  negative_text = λ x top scale. rw (top, scale) refl;
  half = refl;
  tenth = refl;
  negative = refl;
  single = refl;
  no_single = refl;
  no_text = refl;
  first_alone = λ x. refl;
  second_alone = λ x. refl;
  without_nearest = refl;
  by_nearest = refl;
}
