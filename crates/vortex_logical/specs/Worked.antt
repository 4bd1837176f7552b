-- Worked rows of what cells stand for, of the order of these values, and of the whole numbers in that order.
use Rattle.std.specs.Prelude.{◌≡◌, ◌+◌, ◌*◌, ◌^◌, pos, negsuc, true, false, [], ◌∷◌, Some, None}
use Rattle.std.specs.declared.cmp.Ordering.TheVariants.{Less, Equal, Greater}
use Rattle.vortex_logical.specs.declared.comparison.Comparison.TheVariants as comparison
use Rattle.vortex_logical.specs.declared.decimal.DecimalDType.{DecimalDType}
use Rattle.vortex_logical.specs.declared.exact.Exact.{Exact}
use Rattle.vortex_logical.specs.declared.float_test.NanMeaning.TheVariants.{Greatest, Ieee}
use Rattle.vortex_logical.specs.declared.float_type.FloatType.TheVariants.{F16, F32, F64}
use Rattle.vortex_logical.specs.declared.logical_type.LogicalType.TheVariants.{Date, Time, Timestamp, TimestampTz, Decimal}
use Rattle.vortex_logical.specs.declared.point.Point.TheVariants.{Whole, Between}
use Rattle.vortex_logical.specs.declared.time_unit.TimeUnit.TheVariants.{Nanoseconds, Microseconds, Milliseconds, Seconds}
use Rattle.vortex_logical.specs.Conditions.{both, either}
use Rattle.vortex_logical.specs.Floats.{below_holds, float_cmp, float_holds, float_test_holds, infinity_bits, key, nan_bits, sign_bit}
use Rattle.vortex_logical.specs.Halves.{finite, half_cmp, half_ieee, half_of, half_size, infinite, nan}
use Rattle.vortex_logical.specs.declared.logical_type.ExactKind.TheVariants.{Number, Clock, Instant, TimeOfDay}
use Rattle.vortex_logical.specs.LogicalTypes.{kind, range, step, value}
use Rattle.vortex_logical.specs.Lowering.{test_holds}
use Rattle.vortex_logical.specs.Meaning.{fraction_cmp, fraction_of, holds}
use Rattle.vortex_logical.specs.Points.{point_cmp, point_of}
use Rattle.vortex_logical.specs.Sortable.{sortable_bytes}

-- the six comparisons, fractions, and what cells stand for
pub record MeaningExamples : Type 0 where
  pub less_eq : holds comparison.Eq Less ≡ false
  pub less_noteq : holds comparison.NotEq Less ≡ true
  pub less_gt : holds comparison.Gt Less ≡ false
  pub less_gte : holds comparison.Gte Less ≡ false
  pub less_lt : holds comparison.Lt Less ≡ true
  pub less_lte : holds comparison.Lte Less ≡ true
  pub equal_eq : holds comparison.Eq Equal ≡ true
  pub equal_noteq : holds comparison.NotEq Equal ≡ false
  pub equal_gt : holds comparison.Gt Equal ≡ false
  pub equal_gte : holds comparison.Gte Equal ≡ true
  pub equal_lt : holds comparison.Lt Equal ≡ false
  pub equal_lte : holds comparison.Lte Equal ≡ true
  pub greater_eq : holds comparison.Eq Greater ≡ false
  pub greater_noteq : holds comparison.NotEq Greater ≡ true
  pub greater_gt : holds comparison.Gt Greater ≡ true
  pub greater_gte : holds comparison.Gte Greater ≡ true
  pub greater_lt : holds comparison.Lt Greater ≡ false
  pub greater_lte : holds comparison.Lte Greater ≡ false
  pub halves : fraction_cmp (record { top = pos 1; under = 2 }) (record { top = pos 2; under = 4 }) ≡ Equal
  pub third_below_half : fraction_cmp (record { top = pos 1; under = 3 }) (record { top = pos 1; under = 2 }) ≡ Less
  pub half_above_third : fraction_cmp (record { top = pos 1; under = 2 }) (record { top = pos 1; under = 3 }) ≡ Greater
  pub below_nought : fraction_cmp (record { top = negsuc 0; under = 2 }) (record { top = pos 1; under = 2 }) ≡ Less
  pub whole_above : fraction_cmp (record { top = pos 3; under = 2 }) (record { top = pos 1; under = 1 }) ≡ Greater
  pub exact : (x : Exact) → x.top ≡ negsuc 4 → x.scale ≡ 2 → fraction_of x ≡ (record { top = negsuc 4; under = 100 })
  pub day_kind : kind Date ≡ Clock
  pub time_kind : kind (Time Seconds) ≡ TimeOfDay
  pub timestamp_kind : kind (Timestamp Seconds) ≡ Clock
  pub timestamp_tz_kind : kind (TimestampTz Seconds) ≡ Instant
  pub decimal_kind : (d : DecimalDType) → kind (Decimal d) ≡ Number
  pub day_step : step Date ≡ (record { each = 86400; scale = 0 })
  pub day_value : value Date (pos 2) ≡ (record { top = pos 172800; under = 1 })
  pub time_step : step (Time Nanoseconds) ≡ (record { each = 1; scale = 9 })
  pub time_value : value (Time Nanoseconds) (pos 5) ≡ (record { top = pos 5; under = 1000000000 })
  pub timestamp_step : step (Timestamp Milliseconds) ≡ (record { each = 1; scale = 3 })
  pub timestamp_value : value (Timestamp Milliseconds) (negsuc 1499) ≡ (record { top = negsuc 1499; under = 1000 })
  pub timestamp_tz_step : step (TimestampTz Microseconds) ≡ (record { each = 1; scale = 6 })
  pub timestamp_tz_value : value (TimestampTz Microseconds) (pos 7) ≡ (record { top = pos 7; under = 1000000 })
  pub seconds_step : step (Timestamp Seconds) ≡ (record { each = 1; scale = 0 })
  pub seconds_value : value (Timestamp Seconds) (pos 7) ≡ (record { top = pos 7; under = 1 })
  pub decimal_step : (d : DecimalDType) → d.scale ≡ 2 → step (Decimal d) ≡ (record { each = 1; scale = 2 })
  pub day_range : range Date ≡ record { least = negsuc 2147483647; greatest = pos 2147483647 }
  pub time_range : range (Time Seconds) ≡ record { least = negsuc 9223372036854775807; greatest = pos 9223372036854775807 }
  pub timestamp_range : range (Timestamp Seconds) ≡ record { least = negsuc 9223372036854775807; greatest = pos 9223372036854775807 }
  pub timestamp_tz_range : range (TimestampTz Seconds) ≡ record { least = negsuc 9223372036854775807; greatest = pos 9223372036854775807 }
  pub short_decimal_range : (d : DecimalDType) → d.precision ≡ 18 → range (Decimal d) ≡ record { least = negsuc 9223372036854775807; greatest = pos 9223372036854775807 }
  pub long_decimal_range : (d : DecimalDType) → d.precision ≡ 19 → range (Decimal d) ≡ record { least = negsuc 99999999999999999999999999999999999998; greatest = pos 99999999999999999999999999999999999999 }

-- points, tests, three truths and sixteen bytes
pub record PointExamples : Type 0 where
  pub below : point_cmp (pos 4) (Whole (pos 5)) ≡ Less
  pub at : point_cmp (pos 5) (Whole (pos 5)) ≡ Equal
  pub above : point_cmp (pos 6) (Whole (pos 5)) ≡ Greater
  pub under_gap : point_cmp (pos 5) (Between (pos 5)) ≡ Less
  pub over_gap : point_cmp (pos 6) (Between (pos 5)) ≡ Greater
  pub far_under_gap : point_cmp (negsuc 8) (Between (pos 5)) ≡ Less
  pub multiple : point_of (pos 10) (pos 5) ≡ Whole (pos 2)
  pub between : point_of (pos 11) (pos 5) ≡ Between (pos 2)
  pub below_nought : point_of (negsuc 10) (pos 5) ≡ Between (negsuc 2)
  pub negative_multiple : point_of (negsuc 9) (pos 5) ≡ Whole (negsuc 1)
  pub above_two : test_holds (pos 3) (record { comparison = comparison.Gt; number = pos 2 }) ≡ true
  pub not_above_three : test_holds (pos 3) (record { comparison = comparison.Gt; number = pos 3 }) ≡ false
  pub below_four : test_holds (pos 3) (record { comparison = comparison.Lt; number = pos 4 }) ≡ true
  pub three : test_holds (pos 3) (record { comparison = comparison.Eq; number = pos 3 }) ≡ true
  pub both_tt : both (Some true) (Some true) ≡ Some true
  pub either_tt : either (Some true) (Some true) ≡ Some true
  pub both_tf : both (Some true) (Some false) ≡ Some false
  pub either_tf : either (Some true) (Some false) ≡ Some true
  pub both_tn : both (Some true) (None) ≡ None
  pub either_tn : either (Some true) (None) ≡ Some true
  pub both_ft : both (Some false) (Some true) ≡ Some false
  pub either_ft : either (Some false) (Some true) ≡ Some true
  pub both_ff : both (Some false) (Some false) ≡ Some false
  pub either_ff : either (Some false) (Some false) ≡ Some false
  pub both_fn : both (Some false) (None) ≡ Some false
  pub either_fn : either (Some false) (None) ≡ None
  pub both_nt : both (None) (Some true) ≡ None
  pub either_nt : either (None) (Some true) ≡ Some true
  pub both_nf : both (None) (Some false) ≡ Some false
  pub either_nf : either (None) (Some false) ≡ None
  pub both_nn : both (None) (None) ≡ None
  pub either_nn : either (None) (None) ≡ None
  pub nought_bytes : sortable_bytes (pos 0) ≡ 128 ∷ 0 ∷ 0 ∷ 0 ∷ 0 ∷ 0 ∷ 0 ∷ 0 ∷ 0 ∷ 0 ∷ 0 ∷ 0 ∷ 0 ∷ 0 ∷ 0 ∷ 0 ∷ []
  pub one_bytes : sortable_bytes (pos 1) ≡ 128 ∷ 0 ∷ 0 ∷ 0 ∷ 0 ∷ 0 ∷ 0 ∷ 0 ∷ 0 ∷ 0 ∷ 0 ∷ 0 ∷ 0 ∷ 0 ∷ 0 ∷ 1 ∷ []
  pub minus_one_bytes : sortable_bytes (negsuc 0) ≡ 127 ∷ 255 ∷ 255 ∷ 255 ∷ 255 ∷ 255 ∷ 255 ∷ 255 ∷ 255 ∷ 255 ∷ 255 ∷ 255 ∷ 255 ∷ 255 ∷ 255 ∷ 255 ∷ []
  pub minus_256_bytes : sortable_bytes (negsuc 255) ≡ 127 ∷ 255 ∷ 255 ∷ 255 ∷ 255 ∷ 255 ∷ 255 ∷ 255 ∷ 255 ∷ 255 ∷ 255 ∷ 255 ∷ 255 ∷ 255 ∷ 255 ∷ 0 ∷ []

-- floats of 16 bits
pub record HalfExamples : Type 0 where
  pub no_exponent : half_size 0 5 ≡ 5
  pub first_exponent : half_size 1 3 ≡ 1027
  pub second_exponent : half_size 2 3 ≡ 2054
  pub last_exponent : half_size 30 1023 ≡ 1098974756864
  pub nought : half_of 0 ≡ finite false 0
  pub minus_nought : half_of 32768 ≡ finite true 0
  pub least : half_of 1 ≡ finite false 1
  pub one : half_of 15360 ≡ finite false 16777216
  pub minus_two : half_of 49153 ≡ finite true 33587200
  pub infinity : half_of 31744 ≡ infinite false
  pub minus_infinity : half_of 64512 ≡ infinite true
  pub first_nan : half_of 31745 ≡ nan
  pub last_nan : half_of 65535 ≡ nan
  pub nan_nan : half_cmp nan nan ≡ Equal
  pub nan_infinity : half_cmp nan (infinite false) ≡ Greater
  pub nan_number : half_cmp nan (finite false 1) ≡ Greater
  pub infinity_nan : half_cmp (infinite false) nan ≡ Less
  pub number_nan : half_cmp (finite false 1) nan ≡ Less
  pub infinities : half_cmp (infinite false) (infinite false) ≡ Equal
  pub low_infinity : half_cmp (infinite true) (infinite false) ≡ Less
  pub high_infinity : half_cmp (infinite false) (infinite true) ≡ Greater
  pub number_below : half_cmp (finite false 9) (infinite false) ≡ Less
  pub number_above : half_cmp (finite false 9) (infinite true) ≡ Greater
  pub above_number : half_cmp (infinite false) (finite true 9) ≡ Greater
  pub below_number : half_cmp (infinite true) (finite false 9) ≡ Less
  pub numbers : half_cmp (finite false 1) (finite false 2) ≡ Less
  pub negatives : half_cmp (finite true 1) (finite true 2) ≡ Greater
  pub noughts : half_cmp (finite true 0) (finite false 0) ≡ Equal
  pub signs : half_cmp (finite true 1) (finite false 1) ≡ Less
  pub ieee_nan_eq : half_ieee comparison.Eq nan (finite false 1) ≡ false
  pub ieee_of_nan_eq : half_ieee comparison.Eq (finite false 1) nan ≡ false
  pub ieee_numbers_eq : half_ieee comparison.Eq (finite false 1) (finite false 2) ≡ false
  pub ieee_nan_noteq : half_ieee comparison.NotEq nan (finite false 1) ≡ true
  pub ieee_of_nan_noteq : half_ieee comparison.NotEq (finite false 1) nan ≡ true
  pub ieee_numbers_noteq : half_ieee comparison.NotEq (finite false 1) (finite false 2) ≡ true
  pub ieee_nan_gt : half_ieee comparison.Gt nan (finite false 1) ≡ false
  pub ieee_of_nan_gt : half_ieee comparison.Gt (finite false 1) nan ≡ false
  pub ieee_numbers_gt : half_ieee comparison.Gt (finite false 1) (finite false 2) ≡ false
  pub ieee_nan_gte : half_ieee comparison.Gte nan (finite false 1) ≡ false
  pub ieee_of_nan_gte : half_ieee comparison.Gte (finite false 1) nan ≡ false
  pub ieee_numbers_gte : half_ieee comparison.Gte (finite false 1) (finite false 2) ≡ false
  pub ieee_nan_lt : half_ieee comparison.Lt nan (finite false 1) ≡ false
  pub ieee_of_nan_lt : half_ieee comparison.Lt (finite false 1) nan ≡ false
  pub ieee_numbers_lt : half_ieee comparison.Lt (finite false 1) (finite false 2) ≡ true
  pub ieee_nan_lte : half_ieee comparison.Lte nan (finite false 1) ≡ false
  pub ieee_of_nan_lte : half_ieee comparison.Lte (finite false 1) nan ≡ false
  pub ieee_numbers_lte : half_ieee comparison.Lte (finite false 1) (finite false 2) ≡ true

-- floats of three widths, their order, both meanings of NaN, and their whole numbers
pub record FloatExamples : Type 0 where
  pub f16_sign : sign_bit F16 ≡ 2 ^ 15
  pub f16_infinity : infinity_bits F16 ≡ 31 * 2 ^ 10
  pub f16_nan : nan_bits F16 ≡ 31 * 2 ^ 10 + 2 ^ 9
  pub f16_one : key F16 15360 ≡ pos 15360
  pub f16_minus_one : key F16 48128 ≡ negsuc 15360
  pub f16_minus_nought : key F16 32768 ≡ pos 0
  pub f16_minus_least : key F16 32769 ≡ negsuc 1
  pub f16_minus_infinity : key F16 64512 ≡ negsuc 31744
  pub f16_any_nan : key F16 64513 ≡ pos 32256
  pub f16_ones : float_cmp F16 15360 15360 ≡ Equal
  pub f16_one_two : float_cmp F16 15360 16384 ≡ Less
  pub f16_two_one : float_cmp F16 16384 15360 ≡ Greater
  pub f16_signs : float_cmp F16 48128 15360 ≡ Less
  pub f16_noughts : float_cmp F16 32768 0 ≡ Equal
  pub f16_nan_above : float_cmp F16 31745 31744 ≡ Greater
  pub f16_below_nan : float_cmp F16 31744 31745 ≡ Less
  pub f16_nans : float_cmp F16 31745 64514 ≡ Equal
  pub f16_ieee_nan_eq : float_holds Ieee F16 comparison.Eq 31745 31745 ≡ false
  pub f16_ieee_one_two_eq : float_holds Ieee F16 comparison.Eq 15360 16384 ≡ false
  pub f16_greatest_nan_eq : float_holds Greatest F16 comparison.Eq 31745 15360 ≡ false
  pub f16_ieee_nan_noteq : float_holds Ieee F16 comparison.NotEq 31745 31745 ≡ true
  pub f16_ieee_one_two_noteq : float_holds Ieee F16 comparison.NotEq 15360 16384 ≡ true
  pub f16_greatest_nan_noteq : float_holds Greatest F16 comparison.NotEq 31745 15360 ≡ true
  pub f16_ieee_nan_gt : float_holds Ieee F16 comparison.Gt 31745 31745 ≡ false
  pub f16_ieee_one_two_gt : float_holds Ieee F16 comparison.Gt 15360 16384 ≡ false
  pub f16_greatest_nan_gt : float_holds Greatest F16 comparison.Gt 31745 15360 ≡ true
  pub f16_ieee_nan_gte : float_holds Ieee F16 comparison.Gte 31745 31745 ≡ false
  pub f16_ieee_one_two_gte : float_holds Ieee F16 comparison.Gte 15360 16384 ≡ false
  pub f16_greatest_nan_gte : float_holds Greatest F16 comparison.Gte 31745 15360 ≡ true
  pub f16_ieee_nan_lt : float_holds Ieee F16 comparison.Lt 31745 31745 ≡ false
  pub f16_ieee_one_two_lt : float_holds Ieee F16 comparison.Lt 15360 16384 ≡ true
  pub f16_greatest_nan_lt : float_holds Greatest F16 comparison.Lt 31745 15360 ≡ false
  pub f16_ieee_nan_lte : float_holds Ieee F16 comparison.Lte 31745 31745 ≡ false
  pub f16_ieee_one_two_lte : float_holds Ieee F16 comparison.Lte 15360 16384 ≡ true
  pub f16_greatest_nan_lte : float_holds Greatest F16 comparison.Lte 31745 15360 ≡ false
  pub f32_sign : sign_bit F32 ≡ 2 ^ 31
  pub f32_infinity : infinity_bits F32 ≡ 255 * 2 ^ 23
  pub f32_nan : nan_bits F32 ≡ 255 * 2 ^ 23 + 2 ^ 22
  pub f32_one : key F32 1065353216 ≡ pos 1065353216
  pub f32_minus_one : key F32 3212836864 ≡ negsuc 1065353216
  pub f32_minus_nought : key F32 2147483648 ≡ pos 0
  pub f32_minus_least : key F32 2147483649 ≡ negsuc 1
  pub f32_minus_infinity : key F32 4286578688 ≡ negsuc 2139095040
  pub f32_any_nan : key F32 4286578689 ≡ pos 2143289344
  pub f32_ones : float_cmp F32 1065353216 1065353216 ≡ Equal
  pub f32_one_two : float_cmp F32 1065353216 1073741824 ≡ Less
  pub f32_two_one : float_cmp F32 1073741824 1065353216 ≡ Greater
  pub f32_signs : float_cmp F32 3212836864 1065353216 ≡ Less
  pub f32_noughts : float_cmp F32 2147483648 0 ≡ Equal
  pub f32_nan_above : float_cmp F32 2139095041 2139095040 ≡ Greater
  pub f32_below_nan : float_cmp F32 2139095040 2139095041 ≡ Less
  pub f32_nans : float_cmp F32 2139095041 4286578690 ≡ Equal
  pub f32_ieee_nan_eq : float_holds Ieee F32 comparison.Eq 2139095041 2139095041 ≡ false
  pub f32_ieee_one_two_eq : float_holds Ieee F32 comparison.Eq 1065353216 1073741824 ≡ false
  pub f32_greatest_nan_eq : float_holds Greatest F32 comparison.Eq 2139095041 1065353216 ≡ false
  pub f32_ieee_nan_noteq : float_holds Ieee F32 comparison.NotEq 2139095041 2139095041 ≡ true
  pub f32_ieee_one_two_noteq : float_holds Ieee F32 comparison.NotEq 1065353216 1073741824 ≡ true
  pub f32_greatest_nan_noteq : float_holds Greatest F32 comparison.NotEq 2139095041 1065353216 ≡ true
  pub f32_ieee_nan_gt : float_holds Ieee F32 comparison.Gt 2139095041 2139095041 ≡ false
  pub f32_ieee_one_two_gt : float_holds Ieee F32 comparison.Gt 1065353216 1073741824 ≡ false
  pub f32_greatest_nan_gt : float_holds Greatest F32 comparison.Gt 2139095041 1065353216 ≡ true
  pub f32_ieee_nan_gte : float_holds Ieee F32 comparison.Gte 2139095041 2139095041 ≡ false
  pub f32_ieee_one_two_gte : float_holds Ieee F32 comparison.Gte 1065353216 1073741824 ≡ false
  pub f32_greatest_nan_gte : float_holds Greatest F32 comparison.Gte 2139095041 1065353216 ≡ true
  pub f32_ieee_nan_lt : float_holds Ieee F32 comparison.Lt 2139095041 2139095041 ≡ false
  pub f32_ieee_one_two_lt : float_holds Ieee F32 comparison.Lt 1065353216 1073741824 ≡ true
  pub f32_greatest_nan_lt : float_holds Greatest F32 comparison.Lt 2139095041 1065353216 ≡ false
  pub f32_ieee_nan_lte : float_holds Ieee F32 comparison.Lte 2139095041 2139095041 ≡ false
  pub f32_ieee_one_two_lte : float_holds Ieee F32 comparison.Lte 1065353216 1073741824 ≡ true
  pub f32_greatest_nan_lte : float_holds Greatest F32 comparison.Lte 2139095041 1065353216 ≡ false
  pub f64_sign : sign_bit F64 ≡ 2 ^ 63
  pub f64_infinity : infinity_bits F64 ≡ 2047 * 2 ^ 52
  pub f64_nan : nan_bits F64 ≡ 2047 * 2 ^ 52 + 2 ^ 51
  pub f64_one : key F64 4607182418800017408 ≡ pos 4607182418800017408
  pub f64_minus_one : key F64 13830554455654793216 ≡ negsuc 4607182418800017408
  pub f64_minus_nought : key F64 9223372036854775808 ≡ pos 0
  pub f64_minus_least : key F64 9223372036854775809 ≡ negsuc 1
  pub f64_minus_infinity : key F64 18442240474082181120 ≡ negsuc 9218868437227405312
  pub f64_any_nan : key F64 18442240474082181121 ≡ pos 9221120237041090560
  pub f64_ones : float_cmp F64 4607182418800017408 4607182418800017408 ≡ Equal
  pub f64_one_two : float_cmp F64 4607182418800017408 4611686018427387904 ≡ Less
  pub f64_two_one : float_cmp F64 4611686018427387904 4607182418800017408 ≡ Greater
  pub f64_signs : float_cmp F64 13830554455654793216 4607182418800017408 ≡ Less
  pub f64_noughts : float_cmp F64 9223372036854775808 0 ≡ Equal
  pub f64_nan_above : float_cmp F64 9218868437227405313 9218868437227405312 ≡ Greater
  pub f64_below_nan : float_cmp F64 9218868437227405312 9218868437227405313 ≡ Less
  pub f64_nans : float_cmp F64 9218868437227405313 18442240474082181122 ≡ Equal
  pub f64_ieee_nan_eq : float_holds Ieee F64 comparison.Eq 9218868437227405313 9218868437227405313 ≡ false
  pub f64_ieee_one_two_eq : float_holds Ieee F64 comparison.Eq 4607182418800017408 4611686018427387904 ≡ false
  pub f64_greatest_nan_eq : float_holds Greatest F64 comparison.Eq 9218868437227405313 4607182418800017408 ≡ false
  pub f64_ieee_nan_noteq : float_holds Ieee F64 comparison.NotEq 9218868437227405313 9218868437227405313 ≡ true
  pub f64_ieee_one_two_noteq : float_holds Ieee F64 comparison.NotEq 4607182418800017408 4611686018427387904 ≡ true
  pub f64_greatest_nan_noteq : float_holds Greatest F64 comparison.NotEq 9218868437227405313 4607182418800017408 ≡ true
  pub f64_ieee_nan_gt : float_holds Ieee F64 comparison.Gt 9218868437227405313 9218868437227405313 ≡ false
  pub f64_ieee_one_two_gt : float_holds Ieee F64 comparison.Gt 4607182418800017408 4611686018427387904 ≡ false
  pub f64_greatest_nan_gt : float_holds Greatest F64 comparison.Gt 9218868437227405313 4607182418800017408 ≡ true
  pub f64_ieee_nan_gte : float_holds Ieee F64 comparison.Gte 9218868437227405313 9218868437227405313 ≡ false
  pub f64_ieee_one_two_gte : float_holds Ieee F64 comparison.Gte 4607182418800017408 4611686018427387904 ≡ false
  pub f64_greatest_nan_gte : float_holds Greatest F64 comparison.Gte 9218868437227405313 4607182418800017408 ≡ true
  pub f64_ieee_nan_lt : float_holds Ieee F64 comparison.Lt 9218868437227405313 9218868437227405313 ≡ false
  pub f64_ieee_one_two_lt : float_holds Ieee F64 comparison.Lt 4607182418800017408 4611686018427387904 ≡ true
  pub f64_greatest_nan_lt : float_holds Greatest F64 comparison.Lt 9218868437227405313 4607182418800017408 ≡ false
  pub f64_ieee_nan_lte : float_holds Ieee F64 comparison.Lte 9218868437227405313 9218868437227405313 ≡ false
  pub f64_ieee_one_two_lte : float_holds Ieee F64 comparison.Lte 4607182418800017408 4611686018427387904 ≡ true
  pub f64_greatest_nan_lte : float_holds Greatest F64 comparison.Lte 9218868437227405313 4607182418800017408 ≡ false
  pub no_bound : below_holds (pos 9) None ≡ true
  pub below_bound : below_holds (pos 8) (Some (pos 9)) ≡ true
  pub at_bound : below_holds (pos 9) (Some (pos 9)) ≡ false
  pub passes : float_test_holds (pos 8) (record { test = record { comparison = comparison.Gt; number = pos 7 }; below = Some (pos 9) }) ≡ true
  pub fails_test : float_test_holds (pos 7) (record { test = record { comparison = comparison.Gt; number = pos 7 }; below = Some (pos 9) }) ≡ false
  pub fails_bound : float_test_holds (pos 9) (record { test = record { comparison = comparison.Gt; number = pos 7 }; below = Some (pos 9) }) ≡ false
