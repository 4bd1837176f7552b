-- Values in plain form, at the front of a text: what was passed, and what follows.
use Rattle.std.specs.Prelude.{◌≡◌, ◌<◌, ◌⊎◌, ◌&&◌, ◌||◌, ◌==◌, ℕ, ℤ, Bool, true, false, codes, nat_le, nat_lt, not, List, [], ◌∷◌, ◌++◌, Option, Some, IsTrue, length}
use Rattle.std.specs.List.{list_all}
use Rattle.std.specs.Str.{all_ascii_digits, is_utf8}
use Rattle.std.specs.Str.Parse.{digits_value}
use Rattle.vortex_base.specs.declared.dtype.DType.{DType}
use Rattle.vortex_base.specs.declared.pvalue.PValue.{PValue}
use Rattle.vortex_base.specs.declared.scalar_value.ScalarValue.{ScalarValue}
use Rattle.vortex_base.specs.declared.types.PType.{PType}
use Rattle.vortex_syntax.specs.Numbers.{bytes_of, natural_of, number_of, whole_of}
use Rattle.vortex_syntax.specs.Spelling.{CanBeSpelled, spelled}
use Rattle.vortex_syntax.specs.Values.{optional_value_of}
use Rattle.vortex_syntax.specs.Words.{Token}

-- a byte that ends no line, and is ASCII
abbrev pub is_line_byte : ℕ → Bool
is_line_byte b = nat_le 32 b && nat_lt b 127

-- a byte of a word in plain form: neither a space nor a quote, and ASCII
abbrev pub is_word_byte : ℕ → Bool
is_word_byte b = nat_lt 34 b && nat_lt b 127

-- a byte that stands for itself between quotes: neither a quote nor a backslash
abbrev pub is_text_byte : ℕ → Bool
is_text_byte b = is_line_byte b && not (b == 34 || b == 92)

-- the text is such a word, with a byte or more, and what follows it
pub record BeginsWord (text word rest : List ℕ) : Type 0 where
  pub split : text ≡ word ++ rest
  pub some : 0 < length word
  pub is_plain : IsTrue (list_all is_word_byte word)

abbrev pub truth_name : Bool → List ℕ
truth_name true = codes "true"
truth_name false = codes "false"

-- the text is one of such bytes, then the quote that closes it, and what follows that
pub record BeginsQuoted (text quoted rest : List ℕ) : Type 0 where
  pub split : text ≡ quoted ++ 34 ∷ rest
  pub is_plain : IsTrue (list_all is_text_byte quoted)
  pub utf8 : IsTrue (is_utf8 quoted)

-- the text begins with pairs of hexadecimal digits, maybe none, that write these bytes
pub record BeginsBytes (text bytes rest : List ℕ) : Type 0 where
  pub digits : List ℕ
  pub split : text ≡ digits ++ rest
  pub is_plain : IsTrue (list_all is_word_byte digits)
  pub value : bytes_of digits ≡ Some bytes

-- the text begins with digits, maybe none, that write this number
pub record BeginsDigits (text : List ℕ) (n : ℕ) (rest : List ℕ) : Type 0 where
  pub digits : List ℕ
  pub split : text ≡ digits ++ rest
  pub all : all_ascii_digits digits ≡ true
  pub value : digits_value 10 digits ≡ n

-- with some digits
abbrev pub BeginsNatural : List ℕ → ℕ → List ℕ → Type 0
BeginsNatural text n rest = (word : List ℕ) × BeginsWord text word rest × (natural_of word ≡ Some n)

-- with digits, maybe behind a minus, that write this one
abbrev pub BeginsSigned : List ℕ → ℤ → List ℕ → Type 0
BeginsSigned text z rest = (word : List ℕ) × BeginsWord text word rest × (whole_of true word ≡ Some z)

-- with a number of this type
abbrev pub BeginsNumber : PType → List ℕ → PValue → List ℕ → Type 0
BeginsNumber p text v rest = (word : List ℕ) × BeginsWord text word rest × (number_of p word ≡ Some v)

-- a word ends here, with a space or with its line
abbrev pub EndsWord : List ℕ → Type 0
EndsWord [] = ⊥
EndsWord (b ∷ bs) = (b ≡ 32) ⊎ (b ≡ 10)

-- the text begins with a space and a word that writes this optional value of the type; the word is in one line, and ends there
pub record BeginsValue (t : DType) (text : List ℕ) (v : Option ScalarValue) (rest : List ℕ) : Type 0 where
  pub word : Token
  pub split : text ≡ 32 ∷ (spelled word ++ rest)
  pub in_line : IsTrue (list_all is_line_byte (spelled word))
  pub can : CanBeSpelled word
  pub ends : EndsWord rest
  pub value : optional_value_of t word ≡ Some v
