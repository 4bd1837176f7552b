-- The values of the types.
use Rattle.std.specs.Prelude.{ℕ, Bool, true, false, ◌==◌, if◌then◌else◌, List, drop, Option, Some, None, option_map, codes, slice_index}
use Rattle.std.specs.Str.{bytes_eq, is_utf8}
use Rattle.vortex_base.specs.Data.Types.{is_nullable}
use Rattle.vortex_base.specs.declared.dtype.DType.{DType}
use Rattle.vortex_base.specs.declared.dtype.DType.TheVariants as dtype
use Rattle.vortex_base.specs.declared.scalar_value.ScalarValue.{ScalarValue}
use Rattle.vortex_base.specs.declared.scalar_value.ScalarValue.TheVariants as value
use Rattle.vortex_syntax.specs.Numbers.{bytes_of, number_of}
use Rattle.vortex_syntax.specs.Words.{Token, Plain, Quoted, Broken}

abbrev pub truth_of : List ℕ → Option ScalarValue
truth_of word = if bytes_eq word (codes "true") then Some (value.Bool true) else (if bytes_eq word (codes "false") then Some (value.Bool false) else None)

-- bytes: an `x` and then their digits
abbrev pub binary_of : List ℕ → Option ScalarValue
binary_of word = if slice_index word 0 == 120 then option_map (λ bs. value.Binary bs) (bytes_of (drop 1 word)) else None

-- a value other than null that a word without quotes writes
abbrev pub plain_value : DType → List ℕ → Option ScalarValue
plain_value (dtype.Bool n) word = truth_of word
plain_value (dtype.Primitive p n) word = option_map (λ v. value.Primitive v) (number_of p word)
plain_value (dtype.Binary n) word = binary_of word
plain_value t word = None

-- bytes that are UTF-8
abbrev pub text_of : List ℕ → Option (List ℕ)
text_of bytes = if is_utf8 bytes then Some bytes else None

-- a text that stands between quotes
abbrev pub quoted_value : DType → List ℕ → Option ScalarValue
quoted_value (dtype.Utf8 n) text = option_map (λ bs. value.Utf8 bs) (text_of text)
quoted_value t text = None

-- a value other than null
abbrev pub value_of : DType → Token → Option ScalarValue
value_of t (Plain word) = plain_value t word
value_of t (Quoted text) = quoted_value t text
value_of t Broken = None

-- null, or a value other than null
abbrev pub null_or : Bool → Bool → Option ScalarValue → Option (Option ScalarValue)
null_or true true v = Some None
null_or true false v = None
null_or false nullable v = option_map (λ x. Some x) v

-- an optional value; `null` stands for null where the type has it
abbrev pub optional_value_of : DType → Token → Option (Option ScalarValue)
optional_value_of t (Plain word) = null_or (bytes_eq word (codes "null")) (is_nullable t) (plain_value t word)
optional_value_of t (Quoted text) = option_map (λ v. Some v) (quoted_value t text)
optional_value_of t Broken = None
