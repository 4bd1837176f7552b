-- Worked rows: values in plain form, computed.
use Rattle.std.proofs.Common.{◌≡◌, negsuc, true, false, [], ◌∷◌, None, Some, append-nil, codes, refl, ap, ◌∙◌, inl, inr, arith}
use Rattle.std.specs.Str.{chars, is_utf8}
use Rattle.vortex_base.specs.declared.dtype.DType.TheVariants as dtype
use Rattle.vortex_base.specs.declared.pvalue.PValue.TheVariants as number
use Rattle.vortex_base.specs.declared.scalar_value.ScalarValue.TheVariants as value
use Rattle.vortex_base.specs.declared.types.Nullability.TheVariants.{NonNullable, Nullable}
use Rattle.vortex_base.specs.declared.types.PType.TheVariants as ptype
use Rattle.vortex_syntax.proofs.PlainLemmas.{is_spelled}
use Rattle.vortex_syntax.specs.Numbers.{bytes_of}
use Rattle.vortex_syntax.specs.Plain.{BeginsBytes, BeginsNatural, BeginsNumber, BeginsQuoted, BeginsSigned, BeginsValue, is_line_byte, is_text_byte, is_word_byte}
use Rattle.vortex_syntax.specs.Words.{Plain, Quoted}

digits_before_a_space : BeginsNatural (codes "012 x") 12 (codes " x")
digits_before_a_space = (codes "012", record { split = refl; is_plain = refl; some = omega arith }, refl)

digits_behind_a_minus : BeginsSigned (codes "-12 x") (negsuc 11) (codes " x")
digits_behind_a_minus = (codes "-12", record { split = refl; is_plain = refl; some = omega arith }, refl)

least_of_a_type : BeginsNumber ptype.I8 (codes "-128\n") (number.I8 (negsuc 127)) (codes "\n")
least_of_a_type = (codes "-128", record { split = refl; is_plain = refl; some = omega arith }, refl)

text_before_its_quote : BeginsQuoted (codes "a b\" x") (codes "a b") (codes " x")
unfolding is_utf8 chars lib.Utf8.encode
text_before_its_quote = record { split = refl; is_plain = refl; utf8 = refl }

no_text_before_its_quote : BeginsQuoted (codes "\"\n") [] (codes "\n")
unfolding is_utf8 chars lib.Utf8.encode
no_text_before_its_quote = record { split = refl; is_plain = refl; utf8 = refl }

pairs_before_a_space : BeginsBytes (codes "0aFf x") (10 ∷ 255 ∷ []) (codes " x")
pairs_before_a_space = record { digits = codes "0aFf"; split = refl; is_plain = refl; value = refl }

high_digit_first : BeginsBytes (codes "1e") (30 ∷ []) []
high_digit_first = record { digits = codes "1e"; split = refl; is_plain = refl; value = refl }

pairs_before_an_odd_digit : BeginsBytes (codes "0a1\n") (10 ∷ []) (codes "1\n")
pairs_before_an_odd_digit = record { digits = codes "0a"; split = refl; is_plain = refl; value = refl }

no_pairs : BeginsBytes (codes "\n") [] (codes "\n")
no_pairs = record { digits = []; split = refl; is_plain = refl; value = refl }

no_bytes_of_an_odd_digit : BeginsBytes (codes "1") (1 ∷ []) [] → ⊥
no_bytes_of_an_odd_digit begins =
    let read : bytes_of (codes "1") ≡ Some (1 ∷ []) = ap bytes_of (begins.split ∙ append-nil begins.digits) ∙ begins.value in cc

number_before_a_line_feed : BeginsValue (dtype.Primitive ptype.U8 NonNullable) (codes " 255\nrow 1") (Some (value.Primitive (number.U8 255))) (codes "\nrow 1")
number_before_a_line_feed = record { word = Plain (codes "255"); split = refl; in_line = refl; can = is_spelled (codes "255") refl (omega arith); ends = inr refl; value = refl }

null_before_a_space : BeginsValue (dtype.Primitive ptype.U8 Nullable) (codes " null 1") None (codes " 1")
null_before_a_space = record { word = Plain (codes "null"); split = refl; in_line = refl; can = is_spelled (codes "null") refl (omega arith); ends = inl refl; value = refl }

truth_before_a_space : BeginsValue (dtype.Bool NonNullable) (codes " false 1") (Some (value.Bool false)) (codes " 1")
truth_before_a_space = record { word = Plain (codes "false"); split = refl; in_line = refl; can = is_spelled (codes "false") refl (omega arith); ends = inl refl; value = refl }

bytes_before_a_line_feed : BeginsValue (dtype.Binary Nullable) (codes " x0aFf\n") (Some (value.Binary (10 ∷ 255 ∷ []))) (codes "\n")
bytes_before_a_line_feed = record { word = Plain (codes "x0aFf"); split = refl; in_line = refl; can = is_spelled (codes "x0aFf") refl (omega arith); ends = inr refl; value = refl }

text_before_a_space : BeginsValue (dtype.Utf8 NonNullable) (codes " \"a b\" 1") (Some (value.Utf8 (codes "a b"))) (codes " 1")
unfolding is_utf8 chars lib.Utf8.encode
text_before_a_space = record { word = Quoted (codes "a b"); split = refl; in_line = refl; can = tt; ends = inl refl; value = refl }

quoted_null_is_a_text : BeginsValue (dtype.Utf8 Nullable) (codes " \"null\"\n") (Some (value.Utf8 (codes "null"))) (codes "\n")
unfolding is_utf8 chars lib.Utf8.encode
quoted_null_is_a_text = record { word = Quoted (codes "null"); split = refl; in_line = refl; can = tt; ends = inr refl; value = refl }

space_is_of_no_word : is_word_byte 32 ≡ false
space_is_of_no_word = refl

quote_is_of_no_word : is_word_byte 34 ≡ false
quote_is_of_no_word = refl

first_word_byte : is_word_byte 35 ≡ true
first_word_byte = refl

last_word_byte : is_word_byte 126 ≡ true
last_word_byte = refl

other_byte_is_of_no_word : is_word_byte 128 ≡ false
other_byte_is_of_no_word = refl

first_line_byte : is_line_byte 32 ≡ true
first_line_byte = refl

line_feed_is_of_no_line : is_line_byte 10 ≡ false
line_feed_is_of_no_line = refl

carriage_return_is_of_no_line : is_line_byte 13 ≡ false
carriage_return_is_of_no_line = refl

other_byte_is_of_no_line : is_line_byte 128 ≡ false
other_byte_is_of_no_line = refl

space_is_of_a_text : is_text_byte 32 ≡ true
space_is_of_a_text = refl

quote_ends_a_text : is_text_byte 34 ≡ false
quote_ends_a_text = refl

backslash_is_of_no_text : is_text_byte 92 ≡ false
backslash_is_of_no_text = refl

line_feed_is_of_no_text : is_text_byte 10 ≡ false
line_feed_is_of_no_text = refl
