-- The worked rows, by computing.
use Rattle.std.proofs.Common.{◌≡◌, ℕ, ℤ, ◌^◌, ap, ap₂, refl}
use Rattle.std.specs.Prelude.{negsuc, nat_lt, if◌then◌else◌}
use Rattle.vortex_logical.specs.declared.cell_range.CellRange.{CellRange}
use Rattle.vortex_logical.specs.declared.comparison.Comparison.TheVariants as comparison
use Rattle.vortex_logical.specs.declared.decimal.DecimalDType.{DecimalDType}
use Rattle.vortex_logical.specs.declared.exact.Exact.{Exact}
use Rattle.vortex_logical.specs.declared.exact.Step.{Step}
use Rattle.vortex_logical.specs.declared.float_type.FloatType.TheVariants.{F16, F32, F64}
use Rattle.vortex_logical.specs.declared.logical_type.LogicalType.TheVariants.{Decimal}
use Rattle.vortex_logical.specs.LogicalTypes.{bits_64, digits_38, range, step}
use Rattle.vortex_logical.specs.Meaning.{Fraction, fraction_of}
use Rattle.vortex_logical.specs.Worked.{FloatExamples, HalfExamples, MeaningExamples, PointExamples}
use Rattle.vortex_logical.proofs.FloatTests.{floats_compare, greatest_test_is, ieee_test_is}

fraction_from : (x : Exact) (t : ℤ) (s : ℕ) → x.top ≡ t → x.scale ≡ s → fraction_of x ≡ record { top = t; under = 10 ^ s }
fraction_from x t s p q =
    let F : ℤ → ℕ → Fraction = λ a b. record { top = a; under = 10 ^ b } in
    ap₂ F p q

decimal_step_from : (d : DecimalDType) (s : ℕ) → d.scale ≡ s → step (Decimal d) ≡ record { each = 1; scale = s }
decimal_step_from d s q =
    let F : ℕ → Step = λ a. record { each = 1; scale = a } in
    ap F q

decimal_range_from : (d : DecimalDType) (p : ℕ) → d.precision ≡ p → range (Decimal d) ≡ (if nat_lt 18 p then digits_38 else bits_64)
decimal_range_from d p q =
    let F : ℕ → CellRange = λ a. if nat_lt 18 a then digits_38 else bits_64 in
    ap F q

pub meanings : MeaningExamples
meanings = record {
  less_eq = refl;
  less_noteq = refl;
  less_gt = refl;
  less_gte = refl;
  less_lt = refl;
  less_lte = refl;
  equal_eq = refl;
  equal_noteq = refl;
  equal_gt = refl;
  equal_gte = refl;
  equal_lt = refl;
  equal_lte = refl;
  greater_eq = refl;
  greater_noteq = refl;
  greater_gt = refl;
  greater_gte = refl;
  greater_lt = refl;
  greater_lte = refl;
  halves = refl;
  third_below_half = refl;
  half_above_third = refl;
  below_nought = refl;
  whole_above = refl;
  exact = λ x p q. fraction_from x (negsuc 4) 2 p q;
  day_kind = refl;
  time_kind = refl;
  timestamp_kind = refl;
  timestamp_tz_kind = refl;
  decimal_kind = λ d. refl;
  day_step = refl;
  day_value = refl;
  time_step = refl;
  time_value = refl;
  timestamp_step = refl;
  timestamp_value = refl;
  timestamp_tz_step = refl;
  timestamp_tz_value = refl;
  seconds_step = refl;
  seconds_value = refl;
  decimal_step = λ d q. decimal_step_from d 2 q;
  day_range = refl;
  time_range = refl;
  timestamp_range = refl;
  timestamp_tz_range = refl;
  short_decimal_range = λ d q. decimal_range_from d 18 q;
  long_decimal_range = λ d q. decimal_range_from d 19 q;
}

pub points : PointExamples
points = record {
  below = refl;
  at = refl;
  above = refl;
  under_gap = refl;
  over_gap = refl;
  far_under_gap = refl;
  multiple = refl;
  between = refl;
  below_nought = refl;
  negative_multiple = refl;
  above_two = refl;
  not_above_three = refl;
  below_four = refl;
  three = refl;
  both_tt = refl;
  either_tt = refl;
  both_tf = refl;
  either_tf = refl;
  both_tn = refl;
  either_tn = refl;
  both_ft = refl;
  either_ft = refl;
  both_ff = refl;
  either_ff = refl;
  both_fn = refl;
  either_fn = refl;
  both_nt = refl;
  either_nt = refl;
  both_nf = refl;
  either_nf = refl;
  both_nn = refl;
  either_nn = refl;
  nought_bytes = refl;
  one_bytes = refl;
  minus_one_bytes = refl;
  minus_256_bytes = refl;
}

pub halves : HalfExamples
halves = record {
  no_exponent = refl;
  first_exponent = refl;
  second_exponent = refl;
  last_exponent = refl;
  nought = refl;
  minus_nought = refl;
  least = refl;
  one = refl;
  minus_two = refl;
  infinity = refl;
  minus_infinity = refl;
  first_nan = refl;
  last_nan = refl;
  nan_nan = refl;
  nan_infinity = refl;
  nan_number = refl;
  infinity_nan = refl;
  number_nan = refl;
  infinities = refl;
  low_infinity = refl;
  high_infinity = refl;
  number_below = refl;
  number_above = refl;
  above_number = refl;
  below_number = refl;
  numbers = refl;
  negatives = refl;
  noughts = refl;
  signs = refl;
  ieee_nan_eq = refl;
  ieee_of_nan_eq = refl;
  ieee_numbers_eq = refl;
  ieee_nan_noteq = refl;
  ieee_of_nan_noteq = refl;
  ieee_numbers_noteq = refl;
  ieee_nan_gt = refl;
  ieee_of_nan_gt = refl;
  ieee_numbers_gt = refl;
  ieee_nan_gte = refl;
  ieee_of_nan_gte = refl;
  ieee_numbers_gte = refl;
  ieee_nan_lt = refl;
  ieee_of_nan_lt = refl;
  ieee_numbers_lt = refl;
  ieee_nan_lte = refl;
  ieee_of_nan_lte = refl;
  ieee_numbers_lte = refl;
}

pub floats : FloatExamples
floats = record {
  f16_sign = refl;
  f16_infinity = refl;
  f16_nan = refl;
  f16_one = refl;
  f16_minus_one = refl;
  f16_minus_nought = refl;
  f16_minus_least = refl;
  f16_minus_infinity = refl;
  f16_any_nan = refl;
  f16_ones = floats_compare F16 15360 15360;
  f16_one_two = floats_compare F16 15360 16384;
  f16_two_one = floats_compare F16 16384 15360;
  f16_signs = floats_compare F16 48128 15360;
  f16_noughts = floats_compare F16 32768 0;
  f16_nan_above = floats_compare F16 31745 31744;
  f16_below_nan = floats_compare F16 31744 31745;
  f16_nans = floats_compare F16 31745 64514;
  f16_ieee_nan_eq = ieee_test_is F16 comparison.Eq 31745 31745;
  f16_ieee_one_two_eq = ieee_test_is F16 comparison.Eq 15360 16384;
  f16_greatest_nan_eq = greatest_test_is F16 comparison.Eq 31745 15360;
  f16_ieee_nan_noteq = ieee_test_is F16 comparison.NotEq 31745 31745;
  f16_ieee_one_two_noteq = ieee_test_is F16 comparison.NotEq 15360 16384;
  f16_greatest_nan_noteq = greatest_test_is F16 comparison.NotEq 31745 15360;
  f16_ieee_nan_gt = ieee_test_is F16 comparison.Gt 31745 31745;
  f16_ieee_one_two_gt = ieee_test_is F16 comparison.Gt 15360 16384;
  f16_greatest_nan_gt = greatest_test_is F16 comparison.Gt 31745 15360;
  f16_ieee_nan_gte = ieee_test_is F16 comparison.Gte 31745 31745;
  f16_ieee_one_two_gte = ieee_test_is F16 comparison.Gte 15360 16384;
  f16_greatest_nan_gte = greatest_test_is F16 comparison.Gte 31745 15360;
  f16_ieee_nan_lt = ieee_test_is F16 comparison.Lt 31745 31745;
  f16_ieee_one_two_lt = ieee_test_is F16 comparison.Lt 15360 16384;
  f16_greatest_nan_lt = greatest_test_is F16 comparison.Lt 31745 15360;
  f16_ieee_nan_lte = ieee_test_is F16 comparison.Lte 31745 31745;
  f16_ieee_one_two_lte = ieee_test_is F16 comparison.Lte 15360 16384;
  f16_greatest_nan_lte = greatest_test_is F16 comparison.Lte 31745 15360;
  f32_sign = refl;
  f32_infinity = refl;
  f32_nan = refl;
  f32_one = refl;
  f32_minus_one = refl;
  f32_minus_nought = refl;
  f32_minus_least = refl;
  f32_minus_infinity = refl;
  f32_any_nan = refl;
  f32_ones = floats_compare F32 1065353216 1065353216;
  f32_one_two = floats_compare F32 1065353216 1073741824;
  f32_two_one = floats_compare F32 1073741824 1065353216;
  f32_signs = floats_compare F32 3212836864 1065353216;
  f32_noughts = floats_compare F32 2147483648 0;
  f32_nan_above = floats_compare F32 2139095041 2139095040;
  f32_below_nan = floats_compare F32 2139095040 2139095041;
  f32_nans = floats_compare F32 2139095041 4286578690;
  f32_ieee_nan_eq = ieee_test_is F32 comparison.Eq 2139095041 2139095041;
  f32_ieee_one_two_eq = ieee_test_is F32 comparison.Eq 1065353216 1073741824;
  f32_greatest_nan_eq = greatest_test_is F32 comparison.Eq 2139095041 1065353216;
  f32_ieee_nan_noteq = ieee_test_is F32 comparison.NotEq 2139095041 2139095041;
  f32_ieee_one_two_noteq = ieee_test_is F32 comparison.NotEq 1065353216 1073741824;
  f32_greatest_nan_noteq = greatest_test_is F32 comparison.NotEq 2139095041 1065353216;
  f32_ieee_nan_gt = ieee_test_is F32 comparison.Gt 2139095041 2139095041;
  f32_ieee_one_two_gt = ieee_test_is F32 comparison.Gt 1065353216 1073741824;
  f32_greatest_nan_gt = greatest_test_is F32 comparison.Gt 2139095041 1065353216;
  f32_ieee_nan_gte = ieee_test_is F32 comparison.Gte 2139095041 2139095041;
  f32_ieee_one_two_gte = ieee_test_is F32 comparison.Gte 1065353216 1073741824;
  f32_greatest_nan_gte = greatest_test_is F32 comparison.Gte 2139095041 1065353216;
  f32_ieee_nan_lt = ieee_test_is F32 comparison.Lt 2139095041 2139095041;
  f32_ieee_one_two_lt = ieee_test_is F32 comparison.Lt 1065353216 1073741824;
  f32_greatest_nan_lt = greatest_test_is F32 comparison.Lt 2139095041 1065353216;
  f32_ieee_nan_lte = ieee_test_is F32 comparison.Lte 2139095041 2139095041;
  f32_ieee_one_two_lte = ieee_test_is F32 comparison.Lte 1065353216 1073741824;
  f32_greatest_nan_lte = greatest_test_is F32 comparison.Lte 2139095041 1065353216;
  f64_sign = refl;
  f64_infinity = refl;
  f64_nan = refl;
  f64_one = refl;
  f64_minus_one = refl;
  f64_minus_nought = refl;
  f64_minus_least = refl;
  f64_minus_infinity = refl;
  f64_any_nan = refl;
  f64_ones = floats_compare F64 4607182418800017408 4607182418800017408;
  f64_one_two = floats_compare F64 4607182418800017408 4611686018427387904;
  f64_two_one = floats_compare F64 4611686018427387904 4607182418800017408;
  f64_signs = floats_compare F64 13830554455654793216 4607182418800017408;
  f64_noughts = floats_compare F64 9223372036854775808 0;
  f64_nan_above = floats_compare F64 9218868437227405313 9218868437227405312;
  f64_below_nan = floats_compare F64 9218868437227405312 9218868437227405313;
  f64_nans = floats_compare F64 9218868437227405313 18442240474082181122;
  f64_ieee_nan_eq = ieee_test_is F64 comparison.Eq 9218868437227405313 9218868437227405313;
  f64_ieee_one_two_eq = ieee_test_is F64 comparison.Eq 4607182418800017408 4611686018427387904;
  f64_greatest_nan_eq = greatest_test_is F64 comparison.Eq 9218868437227405313 4607182418800017408;
  f64_ieee_nan_noteq = ieee_test_is F64 comparison.NotEq 9218868437227405313 9218868437227405313;
  f64_ieee_one_two_noteq = ieee_test_is F64 comparison.NotEq 4607182418800017408 4611686018427387904;
  f64_greatest_nan_noteq = greatest_test_is F64 comparison.NotEq 9218868437227405313 4607182418800017408;
  f64_ieee_nan_gt = ieee_test_is F64 comparison.Gt 9218868437227405313 9218868437227405313;
  f64_ieee_one_two_gt = ieee_test_is F64 comparison.Gt 4607182418800017408 4611686018427387904;
  f64_greatest_nan_gt = greatest_test_is F64 comparison.Gt 9218868437227405313 4607182418800017408;
  f64_ieee_nan_gte = ieee_test_is F64 comparison.Gte 9218868437227405313 9218868437227405313;
  f64_ieee_one_two_gte = ieee_test_is F64 comparison.Gte 4607182418800017408 4611686018427387904;
  f64_greatest_nan_gte = greatest_test_is F64 comparison.Gte 9218868437227405313 4607182418800017408;
  f64_ieee_nan_lt = ieee_test_is F64 comparison.Lt 9218868437227405313 9218868437227405313;
  f64_ieee_one_two_lt = ieee_test_is F64 comparison.Lt 4607182418800017408 4611686018427387904;
  f64_greatest_nan_lt = greatest_test_is F64 comparison.Lt 9218868437227405313 4607182418800017408;
  f64_ieee_nan_lte = ieee_test_is F64 comparison.Lte 9218868437227405313 9218868437227405313;
  f64_ieee_one_two_lte = ieee_test_is F64 comparison.Lte 4607182418800017408 4611686018427387904;
  f64_greatest_nan_lte = greatest_test_is F64 comparison.Lte 9218868437227405313 4607182418800017408;
  no_bound = refl;
  below_bound = refl;
  at_bound = refl;
  passes = refl;
  fails_test = refl;
  fails_bound = refl;
}
