-- Worked rows of the floats that cells stand for, of comparisons with floats, and of nearest floats.
use Rattle.std.specs.Prelude.{◌≡◌, pos, negsuc, true, false, Some, None, codes}
use Rattle.vortex_floats.specs.Cells.{below_of, bits_at, compared, is_agreed, is_clear, is_told}
use Rattle.std.specs.Float.Ieee.{Float, binary32, binary64, of_bits}
use Rattle.std.specs.Float.Parse.{parse_float}
use Rattle.vortex_floats.specs.Nearest.{compared_if, number_text, single_if, single_of}
use Rattle.vortex_logical.specs.declared.comparison.Comparison.TheVariants as comparison
use Rattle.vortex_logical.specs.declared.exact.Exact.{Exact}
use Rattle.vortex_logical.specs.declared.float_test.NanMeaning.TheVariants.{Greatest, Ieee}
use Rattle.vortex_logical.specs.declared.float_type.FloatType.TheVariants.{F16, F32, F64}

-- what cells stand for, and comparisons of them
pub record CellExamples : Type 0 where
  pub f16_zero : bits_at F16 (pos 0) ≡ 0
  pub f16_one_up : bits_at F16 (pos 1) ≡ 1
  pub f16_infinity : bits_at F16 (pos 31744) ≡ 31744
  pub f16_past_infinity : bits_at F16 (pos 31745) ≡ 31744
  pub f16_before_nan : bits_at F16 (pos 32255) ≡ 31744
  pub f16_nan : bits_at F16 (pos 32256) ≡ 32256
  pub f16_past_nan : bits_at F16 (pos 32261) ≡ 32256
  pub f16_minus_one : bits_at F16 (negsuc 0) ≡ 32769
  pub f16_greatest_below_zero : bits_at F16 (negsuc 1) ≡ 32769
  pub f16_next_below_zero : bits_at F16 (negsuc 2) ≡ 32770
  pub f16_minus_infinity : bits_at F16 (negsuc 31744) ≡ 64512
  pub f16_below_minus_infinity : bits_at F16 (negsuc 31745) ≡ 64512
  pub f16_clear_zero : is_clear F16 (pos 0) ≡ true
  pub f16_clear_greatest : is_clear F16 (pos 31743) ≡ true
  pub f16_clear_infinity : is_clear F16 (pos 31744) ≡ false
  pub f16_clear_nan : is_clear F16 (pos 32256) ≡ false
  pub f16_clear_least : is_clear F16 (negsuc 31743) ≡ true
  pub f16_clear_minus_infinity : is_clear F16 (negsuc 31744) ≡ false
  pub f16_clear_minus_one : is_clear F16 (negsuc 0) ≡ false
  pub f16_clear_minus_two : is_clear F16 (negsuc 1) ≡ false
  pub f16_clear_minus_three : is_clear F16 (negsuc 2) ≡ true
  pub f16_ieee_gt : below_of F16 (Some Ieee) comparison.Gt ≡ Some (pos 32256)
  pub f16_ieee_gte : below_of F16 (Some Ieee) comparison.Gte ≡ Some (pos 32256)
  pub f16_ieee_lt : below_of F16 (Some Ieee) comparison.Lt ≡ None
  pub f16_ieee_eq : below_of F16 (Some Ieee) comparison.Eq ≡ None
  pub f16_greatest_gt : below_of F16 (Some Greatest) comparison.Gt ≡ None
  pub f16_unsaid_gt : below_of F16 None comparison.Gt ≡ None
  pub f32_zero : bits_at F32 (pos 0) ≡ 0
  pub f32_one_up : bits_at F32 (pos 1) ≡ 1
  pub f32_infinity : bits_at F32 (pos 2139095040) ≡ 2139095040
  pub f32_past_infinity : bits_at F32 (pos 2139095041) ≡ 2139095040
  pub f32_before_nan : bits_at F32 (pos 2143289343) ≡ 2139095040
  pub f32_nan : bits_at F32 (pos 2143289344) ≡ 2143289344
  pub f32_past_nan : bits_at F32 (pos 2143289349) ≡ 2143289344
  pub f32_minus_one : bits_at F32 (negsuc 0) ≡ 2147483649
  pub f32_greatest_below_zero : bits_at F32 (negsuc 1) ≡ 2147483649
  pub f32_next_below_zero : bits_at F32 (negsuc 2) ≡ 2147483650
  pub f32_minus_infinity : bits_at F32 (negsuc 2139095040) ≡ 4286578688
  pub f32_below_minus_infinity : bits_at F32 (negsuc 2139095041) ≡ 4286578688
  pub f32_clear_zero : is_clear F32 (pos 0) ≡ true
  pub f32_clear_greatest : is_clear F32 (pos 2139095039) ≡ true
  pub f32_clear_infinity : is_clear F32 (pos 2139095040) ≡ false
  pub f32_clear_nan : is_clear F32 (pos 2143289344) ≡ false
  pub f32_clear_least : is_clear F32 (negsuc 2139095039) ≡ true
  pub f32_clear_minus_infinity : is_clear F32 (negsuc 2139095040) ≡ false
  pub f32_clear_minus_one : is_clear F32 (negsuc 0) ≡ false
  pub f32_clear_minus_two : is_clear F32 (negsuc 1) ≡ false
  pub f32_clear_minus_three : is_clear F32 (negsuc 2) ≡ true
  pub f32_ieee_gt : below_of F32 (Some Ieee) comparison.Gt ≡ Some (pos 2143289344)
  pub f32_ieee_gte : below_of F32 (Some Ieee) comparison.Gte ≡ Some (pos 2143289344)
  pub f32_ieee_lt : below_of F32 (Some Ieee) comparison.Lt ≡ None
  pub f32_ieee_eq : below_of F32 (Some Ieee) comparison.Eq ≡ None
  pub f32_greatest_gt : below_of F32 (Some Greatest) comparison.Gt ≡ None
  pub f32_unsaid_gt : below_of F32 None comparison.Gt ≡ None
  pub f64_zero : bits_at F64 (pos 0) ≡ 0
  pub f64_one_up : bits_at F64 (pos 1) ≡ 1
  pub f64_infinity : bits_at F64 (pos 9218868437227405312) ≡ 9218868437227405312
  pub f64_past_infinity : bits_at F64 (pos 9218868437227405313) ≡ 9218868437227405312
  pub f64_before_nan : bits_at F64 (pos 9221120237041090559) ≡ 9218868437227405312
  pub f64_nan : bits_at F64 (pos 9221120237041090560) ≡ 9221120237041090560
  pub f64_past_nan : bits_at F64 (pos 9221120237041090565) ≡ 9221120237041090560
  pub f64_minus_one : bits_at F64 (negsuc 0) ≡ 9223372036854775809
  pub f64_greatest_below_zero : bits_at F64 (negsuc 1) ≡ 9223372036854775809
  pub f64_next_below_zero : bits_at F64 (negsuc 2) ≡ 9223372036854775810
  pub f64_minus_infinity : bits_at F64 (negsuc 9218868437227405312) ≡ 18442240474082181120
  pub f64_below_minus_infinity : bits_at F64 (negsuc 9218868437227405313) ≡ 18442240474082181120
  pub f64_clear_zero : is_clear F64 (pos 0) ≡ true
  pub f64_clear_greatest : is_clear F64 (pos 9218868437227405311) ≡ true
  pub f64_clear_infinity : is_clear F64 (pos 9218868437227405312) ≡ false
  pub f64_clear_nan : is_clear F64 (pos 9221120237041090560) ≡ false
  pub f64_clear_least : is_clear F64 (negsuc 9218868437227405311) ≡ true
  pub f64_clear_minus_infinity : is_clear F64 (negsuc 9218868437227405312) ≡ false
  pub f64_clear_minus_one : is_clear F64 (negsuc 0) ≡ false
  pub f64_clear_minus_two : is_clear F64 (negsuc 1) ≡ false
  pub f64_clear_minus_three : is_clear F64 (negsuc 2) ≡ true
  pub f64_ieee_gt : below_of F64 (Some Ieee) comparison.Gt ≡ Some (pos 9221120237041090560)
  pub f64_ieee_gte : below_of F64 (Some Ieee) comparison.Gte ≡ Some (pos 9221120237041090560)
  pub f64_ieee_lt : below_of F64 (Some Ieee) comparison.Lt ≡ None
  pub f64_ieee_eq : below_of F64 (Some Ieee) comparison.Eq ≡ None
  pub f64_greatest_gt : below_of F64 (Some Greatest) comparison.Gt ≡ None
  pub f64_unsaid_gt : below_of F64 None comparison.Gt ≡ None
  pub agreed_eq : is_agreed comparison.Eq ≡ true
  pub agreed_noteq : is_agreed comparison.NotEq ≡ true
  pub agreed_gt : is_agreed comparison.Gt ≡ false
  pub agreed_gte : is_agreed comparison.Gte ≡ false
  pub agreed_lt : is_agreed comparison.Lt ≡ true
  pub agreed_lte : is_agreed comparison.Lte ≡ true
  pub unsaid_lt : is_told None comparison.Lt ≡ true
  pub unsaid_gt : is_told None comparison.Gt ≡ false
  pub said_gt : is_told (Some Ieee) comparison.Gt ≡ true
  pub one_unsaid : compared F64 None comparison.Gt 4607182418800017408 ≡ None
  pub one_greatest : compared F64 (Some Greatest) comparison.Gt 4607182418800017408 ≡ Some (record { test = record { comparison = comparison.Gt; number = pos 4607182418800017408 }; below = None })
  pub one_ieee : compared F64 (Some Ieee) comparison.Gte 4607182418800017408 ≡ Some (record { test = record { comparison = comparison.Gte; number = pos 4607182418800017408 }; below = Some (pos 9221120237041090560) })
  pub below_one : compared F64 None comparison.Lt 4607182418800017408 ≡ Some (record { test = record { comparison = comparison.Lt; number = pos 4607182418800017408 }; below = None })
  pub nan_literal : compared F64 None comparison.Lt 9221120237041090560 ≡ None
  pub infinite_literal : compared F32 (Some Greatest) comparison.Lt 2139095040 ≡ None

-- the texts of numbers, and the floats that are nearest to them
pub record NumberExamples : Type 0 where
  pub text : (x : Exact) → x.top ≡ pos 15 → x.scale ≡ 1 → number_text x ≡ codes "15e-1"
  pub negative_text : (x : Exact) → x.top ≡ negsuc 4 → x.scale ≡ 0 → number_text x ≡ codes "-5e-0"
  pub half : parse_float binary64 (codes "5e-1") ≡ Some (of_bits binary64 4602678819172646912)
  pub tenth : parse_float binary32 (codes "1e-1") ≡ Some (of_bits binary32 1036831949)
  pub negative : parse_float binary32 (codes "-25e-1") ≡ Some (of_bits binary32 3223322624)
  pub single : single_of (codes "5e-1") ≡ Some (of_bits binary32 1056964608)
  pub no_single : single_of (codes "1e-1") ≡ None
  pub no_text : single_of (codes "x") ≡ None
  pub first_alone : (x : Float) → single_if (Some x) None ≡ None
  pub second_alone : (x : Float) → single_if None (Some x) ≡ None
  pub without_nearest : compared_if F64 None comparison.Lt None ≡ None
  pub by_nearest : compared_if F64 None comparison.Lt (Some 0) ≡ Some (record { test = record { comparison = comparison.Lt; number = pos 0 }; below = None })
