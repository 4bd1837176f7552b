-- The float that is nearest to a number.
use Rattle.std.specs.Prelude.{◌≡◌, ℕ, ℤ, ◌++◌, List, Option, Some, None, MatchOption, codes, decimal, option_map, if◌then◌else◌}
use Rattle.std.specs.Fmt.{signed_decimal}
use Rattle.std.specs.Float.Ieee.{Float, Format, binary32, binary64, eq, of_bits}
use Rattle.std.specs.Float.Parse.{parse_float}
use Rattle.vortex_floats.specs.Cells.{SaysOf, compared}
use Rattle.vortex_literals.specs.Floats.{float_bits, nan64}
use Rattle.vortex_logical.specs.declared.comparison.Comparison.{Comparison}
use Rattle.vortex_logical.specs.declared.exact.Exact.{Exact}
use Rattle.vortex_logical.specs.declared.float_test.FloatTest.{FloatTest}
use Rattle.vortex_logical.specs.declared.float_test.NanMeaning.{NanMeaning}
use Rattle.vortex_logical.specs.declared.float_type.FloatType.{FloatType}
use Rattle.vortex_logical.specs.declared.float_type.FloatType.TheVariants.{F16, F32, F64}

-- the text of a number over ten to the scale, as 123e-2
abbrev pub text_over : (top : ℤ) (scale : ℕ) → List ℕ
text_over top scale = signed_decimal top ++ (codes "e-" ++ decimal scale)

abbrev pub number_text : Exact → List ℕ
number_text x = text_over x.top x.scale

-- a float of 32 bits, if the one of 64 bits is the same number
abbrev pub single_if : Option Float → Option Float → Option Float
single_if (Some s) (Some d) = if eq s d then Some s else None
single_if s d = None

-- std's nearest float of 32 bits to the number that a text writes, if that of 64 bits is the same
abbrev pub single_of : List ℕ → Option Float
single_of text = single_if (parse_float binary32 text) (parse_float binary64 text)

-- a float, if there is one, by its bits
abbrev pub AreBits : Format → Option Float → Option ℕ → Type 0
AreBits f x found = MatchOption found (x ≡ None) (λ b. x ≡ Some (of_bits f b))

-- the NaN of 32 bits that stands for all
abbrev pub nan32 : ℕ
nan32 = 2_143_289_344

-- the bits of the float that is nearest to a number over ten to the scale, where the type has one that engines agree on
abbrev pub nearest_over : FloatType → (top : ℤ) (scale : ℕ) → Option ℕ
nearest_over F16 top scale = None
nearest_over F32 top scale = option_map (float_bits binary32 nan32) (single_of (text_over top scale))
nearest_over F64 top scale = option_map (float_bits binary64 nan64) (parse_float binary64 (text_over top scale))

abbrev pub nearest : FloatType → Exact → Option ℕ
nearest t x = nearest_over t x.top x.scale

-- these are the bits of the nearest float
abbrev pub AreNearest : FloatType → Exact → Option ℕ → Type 0
AreNearest F16 x found = found ≡ None
AreNearest F32 x found = AreBits binary32 (single_of (number_text x)) found
AreNearest F64 x found = AreBits binary64 (parse_float binary64 (number_text x)) found

abbrev pub compared_if : FloatType → Option NanMeaning → Comparison → Option ℕ → Option FloatTest
compared_if t said c None = None
compared_if t said c (Some b) = compared t said c b

-- the test is the one by the nearest float, if there is one
abbrev pub IsByNearest : FloatType → Option NanMeaning → Comparison → Exact → Option FloatTest → Type 0
IsByNearest t said c x test = (found : Option ℕ) × AreNearest t x found × (test ≡ compared_if t said c found)

-- the test says of each cell what the comparison of its float with the nearest float to the number says
abbrev pub SaysOfNumber : FloatType → Option NanMeaning → Comparison → Exact → FloatTest → Type 0
SaysOfNumber t said c x test = (b : ℕ) × AreNearest t x (Some b) × SaysOf t said c b test
