-- Values in plain form: digits by digits, words up to their end, texts up to the quote that closes them.
use Rattle.std.proofs.Common.{◌≡◌, ◌≢◌, ◌<◌, ◌≤◌, ◌+◌, ◌-◌, ◌*◌, ◌&&◌, ◌||◌, ◌==◌, ℕ, ℤ, zero, suc, pos, neg_ℤ, Bool, true, false, not, List, [], ◌∷◌, ◌++◌, Option, None, Some, length, length-append, nat_lt, option_and_then, option_map, codes, append_assoc, position, take, drop, get_or, int_le, refl, ap, sym, subst, ◌∙◌, inl, inr, arith, take-append-drop}
use Rattle.std.specs.Prelude.{IfSome}
use Rattle.std.proofs.lemmas.Bool.{and_from, and_parts, cases_Bool, false_from_ne_true}
use Rattle.std.proofs.lemmas.Bool.Decides.{nat_tests}
use Rattle.std.proofs.lemmas.Int.Digits.{digits_value_push}
use Rattle.std.proofs.lemmas.Str.Parse.{digits_value_short, numerals_by_value, tells_all_ascii_digits}
use Rattle.std.proofs.lemmas.List.{length-drop, length-take, take-append-le, take_rest, length-take-le}
use Rattle.std.proofs.lemmas.List.Quantifiers.{position-Some}
use Rattle.std.specs.Char.{is_ascii_digit}
use Rattle.std.specs.List.{AllByRecursion, flat_map, list_all, position_or_len}
use Rattle.std.proofs.lemmas.Slice.Eq.{bytes_eq-Decides}
use Rattle.std.proofs.lemmas.Str.{IsUtf8-from_ascii, is_utf8-from_IsUtf8}
use Rattle.std.specs.Str.{all_ascii_digits, bytes_eq, is_utf8, IsAscii, IsUtf8}
use Rattle.std.specs.Str.Parse.{digits_value, digits_value_after}
use Rattle.vortex_base.specs.Data.States.{is_signed}
use Rattle.vortex_base.specs.Data.Values.{greatest, least}
use Rattle.vortex_base.specs.declared.dtype.DType.{DType}
use Rattle.vortex_base.specs.Data.Types.{is_nullable}
use Rattle.vortex_base.specs.Data.ArrayData.{short_value}
use Rattle.vortex_base.specs.declared.array_data.PrimitiveScalar.{PrimitiveScalar}
use Rattle.vortex_base.specs.declared.dtype.DType.TheVariants as dtype
use Rattle.vortex_base.specs.declared.pvalue.PValue.{PValue}
use Rattle.vortex_base.specs.declared.scalar_value.ScalarValue.{ScalarValue}
use Rattle.vortex_base.specs.declared.scalar_value.ScalarValue.TheVariants as value
use Rattle.vortex_base.specs.declared.types.Nullability.{Nullability}
use Rattle.vortex_base.specs.declared.types.PType.{PType}
use Rattle.vortex_base.specs.declared.types.PType.TheVariants as ptype
use Rattle.vortex_syntax.proofs.Fronts.{AreAt, front_is}
use Rattle.vortex_syntax.proofs.NumberLemmas.{all_push, digit_is}
use Rattle.vortex_syntax.proofs.Spelling.{quotes_open}
use Rattle.vortex_syntax.specs.Numbers.{bytes_of, in_64_bits_signed, in_type, number_of, whole_of}
use Rattle.vortex_syntax.specs.Plain.{BeginsBytes, BeginsDigits, BeginsNatural, BeginsNumber, BeginsQuoted, BeginsSigned, BeginsValue, BeginsWord, EndsWord, is_line_byte, is_text_byte, is_word_byte, truth_name}
use Rattle.vortex_syntax.specs.Spelling.{CanBeSpelled, spelled_byte}
use Rattle.vortex_syntax.specs.Values.{binary_of, optional_value_of}
use Rattle.vortex_syntax.specs.Words.{Plain, Quoted}

pub digits_none : (text : List ℕ) → BeginsDigits text 0 text
digits_none text = record { digits = []; split = refl; all = refl; value = refl }

-- one more digit
pub digits_more : (text rest : List ℕ) (n m : ℕ) → BeginsDigits text n rest → 0 < length rest → is_ascii_digit (get_or rest 0 0) ≡ true → m ≡ get_or rest 0 0 - 48
    → BeginsDigits text (n * 10 + m) (take (length rest - 1) (drop 1 rest))
digits_more text [] n m so_far some digit is = absurd (omega arith)
digits_more text (d ∷ rest) n m so_far some digit is = record {
  digits = so_far.digits ++ d ∷ [];
  split = so_far.split ∙ ap (λ l. so_far.digits ++ d ∷ l) (sym (take_rest (d ∷ rest) 1)) ∙ sym (append_assoc so_far.digits (d ∷ []) _);
  all = all_push so_far.digits d so_far.all digit;
  value = digits_value_push 10 so_far.digits d ∙ omega (arith, digit_is d digit, so_far.value, is);
}

digits_push : (text after : List ℕ) (d n : ℕ) → BeginsDigits text n (d ∷ after) → is_ascii_digit d ≡ true → BeginsDigits text (n * 10 + (d - 48)) after
digits_push text after d n so_far digit = record {
  digits = so_far.digits ++ d ∷ [];
  split = so_far.split ∙ sym (append_assoc so_far.digits (d ∷ []) after);
  all = all_push so_far.digits d so_far.all digit;
  value = digits_value_push 10 so_far.digits d ∙ omega (arith, digit_is d digit, so_far.value);
}

word_digits : (ds : List ℕ) → all_ascii_digits ds ≡ true → list_all is_word_byte ds ≡ true
word_digits [] all = refl
word_digits (d ∷ ds) all =
    let (one, rest) = and_parts _ _ all in
    let first : is_ascii_digit d ≡ true = one in
    let visible : is_word_byte d ≡ true = grind (arith, nat_tests, first) in
    and_from _ _ visible (word_digits ds rest)

-- some digits
pub natural_begins : (text rest : List ℕ) (n : ℕ) → BeginsDigits text n rest → length rest < length text → BeginsNatural text n rest
natural_begins text rest n so_far shorter =
    let some : 0 < length so_far.digits = omega (arith, simp length-append at (ap length so_far.split)) in
    let long : nat_lt 0 (length so_far.digits) ≡ true = grind (arith, nat_tests) in
    let all = so_far.all in
    (so_far.digits, record { split = so_far.split; some = some; is_plain = word_digits so_far.digits all }, rw (all, long) (ap Some so_far.value))

-- the number with these digits behind it
abbrev pub value_on : ℕ → List ℕ → ℕ
value_on n [] = n
value_on n (d ∷ ds) = value_on (n * 10 + (d - 48)) ds

-- the same number, as std says it
pub value_on_digits : (ds : List ℕ) (n : ℕ) → all_ascii_digits ds ≡ true → digits_value_after 10 n ds ≡ value_on n ds
value_on_digits [] n all = refl
value_on_digits (d ∷ ds) n all = let (one, more) = and_parts _ _ all in rw (digit_is d one) (value_on_digits ds (n * 10 + (d - 48)) more)

digits_on : (whole rest : List ℕ) (n : ℕ) (ds : List ℕ) → BeginsDigits whole n (ds ++ rest) → all_ascii_digits ds ≡ true → BeginsDigits whole (value_on n ds) rest
digits_on whole rest n [] so_far all = so_far
digits_on whole rest n (d ∷ ds) so_far all =
    let (one, more) = and_parts _ _ all in
    digits_on whole rest (n * 10 + (d - 48)) ds (digits_push whole (ds ++ rest) d n so_far one) more

-- the digits at the front of a text, behind others
pub digits_front : (whole text : List ℕ) (n m : ℕ) (ds : List ℕ) → BeginsDigits whole n text → length ds ≤ length text → AreAt text 0 ds → all_ascii_digits ds ≡ true → m ≡ value_on n ds
    → BeginsDigits whole m (take (length text - length ds) (drop (length ds) text))
digits_front whole text n m ds so_far long are all is =
    let behind = take (length text - length ds) (drop (length ds) text) in
    let split : BeginsDigits whole n (ds ++ behind) = subst (λ l. BeginsDigits whole n l) (front_is ds text long are) so_far in
    subst (λ k. BeginsDigits whole k behind) (sym is) (digits_on whole behind n ds split all)

-- eight bytes at the front of a text
abbrev pub eight_of : List ℕ → List ℕ
eight_of text = get_or text 0 0 ∷ get_or text 1 0 ∷ get_or text 2 0 ∷ get_or text 3 0 ∷ get_or text 4 0 ∷ get_or text 5 0 ∷ get_or text 6 0 ∷ get_or text 7 0 ∷ []

-- the first eight of a text, one by one
front_eight : (text : List ℕ) → 8 ≤ length text → take 8 text ≡ eight_of text
front_eight text long = ap (take 8) (front_is (eight_of text) text long (refl, (refl, (refl, (refl, (refl, (refl, (refl, (refl, tt))))))))) ∙ take-append-le 8 (eight_of text) (take (length text - 8) (drop 8 text)) (omega arith)

-- eight more digits
pub digits_eight : (whole rest : List ℕ) (n m : ℕ) → BeginsDigits whole n rest → 8 ≤ length rest → all_ascii_digits (take 8 rest) ≡ true → m ≡ digits_value 10 (take 8 rest)
    → BeginsDigits whole (n * 100000000 + m) (take (length rest - 8) (drop 8 rest))
digits_eight whole rest n m so_far long all is =
    let same = front_eight rest long in
    let digits : all_ascii_digits (eight_of rest) ≡ true = ap all_ascii_digits (sym same) ∙ all in
    digits_front whole rest n (n * 100000000 + m) (eight_of rest) so_far long (refl, (refl, (refl, (refl, (refl, (refl, (refl, (refl, tt)))))))) digits (omega (arith, value_on_digits (eight_of rest) 0 digits, ap (digits_value 10) same))

-- the number that up to eight digits write is short
pub eight_short : (text : List ℕ) (n : ℕ) → all_ascii_digits (take 8 text) ≡ true → n ≡ digits_value 10 (take 8 text) → n < 100000000
eight_short text n all is =
    let few : digits_value 10 (take 8 text) < 100000000 = digits_value_short (numerals_by_value _ tells_all_ascii_digits) (take 8 text) 8 all (omega (arith, length-take 8 text)) in
    omega arith

-- eight digits, and no more known
pub first_eight : (text : List ℕ) (n : ℕ) → 8 ≤ length text → all_ascii_digits (take 8 text) ≡ true → n ≡ digits_value 10 (take 8 text) → BeginsDigits text n (take (length text - 8) (drop 8 text))
first_eight text n long all is =
    let same : 0 * 100000000 + n ≡ n = omega arith in
    subst (λ m. BeginsDigits text m (take (length text - 8) (drop 8 text))) same (digits_eight text text 0 n (digits_none text) long all is)

-- some digits at the front of a text
pub natural_front : (text : List ℕ) (k n : ℕ) → k ≤ length text → k ≢ 0 → all_ascii_digits (take k text) ≡ true → n ≡ digits_value 10 (take k text)
    → BeginsNatural text n (take (length text - k) (drop k text))
natural_front text k n within some all is =
    let behind : take (length text - k) (drop k text) ≡ drop k text = take_rest text k in
    let shorter : length (take (length text - k) (drop k text)) < length text = omega (arith, ap length behind, length-drop k text) in
    natural_begins text (take (length text - k) (drop k text)) n record {
      digits = take k text;
      split = sym (take-append-drop k text) ∙ ap (λ l. take k text ++ l) (sym behind);
      all = all;
      value = sym is;
    } shorter

-- the first digit and those that follow it
pub longer_natural : {X : Type 0} (number : X → ℕ) (behind : X → List ℕ) (o : Option X) (text after : List ℕ) (n : ℕ) → IfSome o (λ x. (whole : List ℕ) → BeginsDigits whole n after → BeginsDigits whole (number x) (behind x))
    → IfSome o (λ x. length (behind x) ≤ length after) → BeginsDigits text n after → length after < length text → IfSome o (λ x. BeginsNatural text (number x) (behind x))
longer_natural number behind None text after n more no_longer so_far shorter = tt
longer_natural number behind (Some x) text after n more no_longer so_far shorter = natural_begins text (behind x) (number x) (more text so_far) (omega (arith, no_longer, shorter))

-- ---- signed numbers

-- a list with this first element
pub uncons : (text : List ℕ) (b : ℕ) → 1 ≤ length text → get_or text 0 0 ≡ b → text ≡ b ∷ take (length text - 1) (drop 1 text)
uncons [] b some first = absurd (omega arith)
uncons (a ∷ text) b some first = rw first (ap (λ l. b ∷ l) (sym (take_rest (a ∷ text) 1)))

held_signed : (z v : ℤ) → in_64_bits_signed z ≡ Some v → z ≡ v
held_signed z v e = elim (cases_Bool (int_le (least ptype.I64) z && int_le z (greatest ptype.I64))) [ inl is ↦ (let same = rw is at e in cc) | inr isnt ↦ (let same = rw isnt at e in cc) ]

signed_behind : (behind rest : List ℕ) (n : ℕ) → BeginsNatural behind n rest → BeginsSigned (45 ∷ behind) (neg_ℤ (pos n)) rest
signed_behind behind rest n (word, begins, is) =
    (45 ∷ word, record { split = ap (λ l. 45 ∷ l) begins.split; some = omega arith; is_plain = and_from _ _ refl begins.is_plain }, ap (option_map (λ k. neg_ℤ (pos k))) is)

-- digits behind a minus
pub signed_down : (text rest : List ℕ) (n : ℕ) (z : ℤ) → 1 ≤ length text → get_or text 0 0 ≡ 45 → BeginsNatural (take (length text - 1) (drop 1 text)) n rest → in_64_bits_signed (neg_ℤ (pos n)) ≡ Some z
    → BeginsSigned text z rest
signed_down text rest n z some first begins held =
    subst (λ t. BeginsSigned t z rest) (sym (uncons text 45 some first)) (subst (λ v. BeginsSigned (45 ∷ take (length text - 1) (drop 1 text)) v rest) (held_signed (neg_ℤ (pos n)) z held) (signed_behind _ rest n begins))

-- a list with these two first elements
pub uncons_two : (text : List ℕ) (a b : ℕ) → 2 ≤ length text → get_or text 0 0 ≡ a → get_or text 1 0 ≡ b → text ≡ a ∷ b ∷ take (length text - 2) (drop 2 text)
uncons_two [] a b some first second = absurd (omega arith)
uncons_two (c ∷ []) a b some first second = absurd (omega arith)
uncons_two (c ∷ d ∷ text) a b some first second = rw (first, second) (ap (λ l. a ∷ b ∷ l) (sym (take_rest (c ∷ d ∷ text) 2)))

-- ---- words

pub line_bytes : (word : List ℕ) → list_all is_word_byte word ≡ true → list_all is_line_byte word ≡ true
line_bytes [] all = refl
line_bytes (b ∷ word) all =
    let (one, more) = and_parts _ _ all in
    let first : is_word_byte b ≡ true = one in
    let fine : is_line_byte b ≡ true = grind (arith, nat_tests, first) in
    and_from _ _ fine (line_bytes word more)

no_spaces : (word : List ℕ) → list_all is_word_byte word ≡ true → AllByRecursion (λ c. c ≢ 32) word
no_spaces [] plain = tt
no_spaces (b ∷ word) plain =
    let (one, more) = and_parts _ _ plain in
    let first : is_word_byte b ≡ true = one in
    let high : 34 < b = grind (arith, nat_tests, first) in
    ((λ e. omega arith), no_spaces word more)

pub is_spelled : (word : List ℕ) → list_all is_word_byte word ≡ true → 0 < length word → CanBeSpelled (Plain word)
is_spelled [] plain some = omega arith
is_spelled (b ∷ word) plain some =
    let first : is_word_byte b ≡ true = (and_parts _ _ plain).0 in
    let high : 34 < b = grind (arith, nat_tests, first) in
    ((λ e. omega arith), no_spaces (b ∷ word) plain)

one_more : (n : ℕ) → 1 + n ≡ suc n
one_more n = omega arith

-- all before the first that fails a test pass it
passing_front : (p : ℕ → Bool) (text : List ℕ) → list_all p (take (position_or_len (λ b. not (p b)) text) text) ≡ true
passing_front p [] = refl
passing_front p (b ∷ text) = elim (cases_Bool (p b)) [
  | inl is ↦ rw (is, one_more) (and_from _ _ is (passing_front p text))
  | inr isnt ↦ rw isnt refl
]

first_at : (p : ℕ → Bool) (text : List ℕ) (end : ℕ) → position p text ≡ Some end → position_or_len p text ≡ end
first_at p text end found = elim (cases_Bool (nat_lt (position_or_len p text) (length text))) [
  | inl is ↦ (let same = rw is at found in cc)
  | inr isnt ↦ (let same = rw isnt at found in cc)
]

pub front_passes : (p : ℕ → Bool) (text : List ℕ) (end : ℕ) → position (λ b. not (p b)) text ≡ Some end → list_all p (take end text) ≡ true
front_passes p text end found = subst (λ n. list_all p (take n text) ≡ true) (first_at (λ b. not (p b)) text end found) (passing_front p text)

-- a word in plain form, up to the first byte that isn't of one
pub word_begins : (text : List ℕ) (end : ℕ) → position (λ b. not (is_word_byte b)) text ≡ Some end → 0 < end → BeginsWord text (take end text) (drop end text)
word_begins text end found some =
    let (within, at, before) = position-Some (λ b. not (is_word_byte b)) text end 0 found in
    record { split = sym (take-append-drop end text); some = omega (arith, length-take-le end text (omega arith)); is_plain = front_passes is_word_byte text end found }

-- the value of such a word
pub value_in_word : (t : DType) (text behind word rest : List ℕ) (v : Option ScalarValue) → text ≡ 32 ∷ behind → BeginsWord behind word rest → EndsWord rest → optional_value_of t (Plain word) ≡ Some v
    → BeginsValue t text v rest
value_in_word t text behind word rest v is begins ends value = record {
  word = Plain word;
  split = is ∙ ap (λ l. 32 ∷ l) begins.split;
  in_line = line_bytes word begins.is_plain;
  can = is_spelled word begins.is_plain begins.some;
  ends = ends;
  value = value;
}

-- a truth behind a space
pub value_truth : (n : Nullability) (text behind rest : List ℕ) (b : Bool) → text ≡ 32 ∷ behind → BeginsWord behind (truth_name b) rest → EndsWord rest → BeginsValue (dtype.Bool n) text (Some (value.Bool b)) rest
value_truth n text behind rest true is begins ends = value_in_word (dtype.Bool n) text behind (codes "true") rest (Some (value.Bool true)) is begins ends refl
value_truth n text behind rest false is begins ends = value_in_word (dtype.Bool n) text behind (codes "false") rest (Some (value.Bool false)) is begins ends refl

-- ---- texts between quotes

not_quoted : (b : ℕ) → is_text_byte b ≡ true → (is_line_byte b ≡ true) × ((b == 34 || b == 92) ≡ false)
not_quoted b is = let (line, other) = and_parts (is_line_byte b) (not (b == 34 || b == 92)) is in elim (cases_Bool (b == 34 || b == 92)) [
  | inl quoted ↦ (let h = rw quoted at other in cc)
  | inr isnt ↦ (line, isnt)
]

text_spelled : (t : List ℕ) → list_all is_text_byte t ≡ true → flat_map spelled_byte t ≡ t
text_spelled [] all = refl
text_spelled (b ∷ t) all =
    let (one, more) = and_parts _ _ all in
    let other = (not_quoted b one).1 in
    rw other (ap (λ l. b ∷ l) (text_spelled t more))

text_in_line : (t : List ℕ) → list_all is_text_byte t ≡ true → list_all is_line_byte (t ++ 34 ∷ []) ≡ true
text_in_line [] all = refl
text_in_line (b ∷ t) all =
    let (one, more) = and_parts _ _ all in
    and_from _ _ (not_quoted b one).0 (text_in_line t more)

text_byte_small : (b : ℕ) → is_text_byte b ≡ true → b < 128
text_byte_small b is = let line = (not_quoted b is).0 in grind (arith, nat_tests, line)

-- bytes that stand for themselves are ASCII
text_is_ascii : (t : List ℕ) → list_all is_text_byte t ≡ true → IsAscii t
text_is_ascii [] all i = omega arith
text_is_ascii (b ∷ t) all zero = text_byte_small b ((and_parts _ _ all).0)
text_is_ascii (b ∷ t) all (suc i) = text_is_ascii t ((and_parts _ _ all).1) i

-- what stands in front of the first byte that doesn't stand for itself
pub front_utf8 : (text : List ℕ) (end : ℕ) → position (λ b. not (is_text_byte b)) text ≡ Some end → IsUtf8 (take end text)
front_utf8 text end found = IsUtf8-from_ascii (take end text) (text_is_ascii (take end text) (front_passes is_text_byte text end found))

-- a text that its first quote closes
pub quoted_begins : (text rest : List ℕ) (end : ℕ) → position (λ b. not (is_text_byte b)) text ≡ Some end → drop end text ≡ 34 ∷ rest → BeginsQuoted text (take end text) rest
quoted_begins text rest end found closes =
    record {
      split = sym (take-append-drop end text) ∙ ap (λ l. take end text ++ l) closes;
      is_plain = front_passes is_text_byte text end found;
      utf8 = is_utf8-from_IsUtf8 (take end text) (front_utf8 text end found);
    }

-- the value of such a text
pub value_in_quotes : (n : Nullability) (text behind quoted rest : List ℕ) → text ≡ 32 ∷ 34 ∷ behind → BeginsQuoted behind quoted rest → EndsWord rest → BeginsValue (dtype.Utf8 n) text (Some (value.Utf8 quoted)) rest
value_in_quotes n text behind quoted rest is begins ends =
    let same : flat_map spelled_byte quoted ≡ quoted = text_spelled quoted begins.is_plain in
    let utf8 : is_utf8 quoted ≡ true = begins.utf8 in
    record {
      word = Quoted quoted;
      split = is ∙ ap (λ l. 32 ∷ 34 ∷ l) (begins.split ∙ ap (λ l. l ++ 34 ∷ rest) (sym same)) ∙ ap (λ l. 32 ∷ l) (sym (quotes_open (flat_map spelled_byte quoted) rest));
      in_line = ap (λ l. list_all is_line_byte (34 ∷ (l ++ 34 ∷ []))) same ∙ text_in_line quoted begins.is_plain;
      can = tt;
      ends = ends;
      value = rw utf8 refl;
    }

-- ---- numbers and null

null_is_no_number : (signed : Bool) → whole_of signed (codes "null") ≡ None
null_is_no_number true = refl
null_is_no_number false = refl

not_null : (p : PType) (n : Nullability) (word : List ℕ) (v : PValue) → number_of p word ≡ Some v → optional_value_of (dtype.Primitive p n) (Plain word) ≡ Some (Some (value.Primitive v))
not_null p n word v is = elim (cases_Bool (bytes_eq word (codes "null"))) [
  | inl null ↦ (let same : word ≡ codes "null" = (bytes_eq-Decides word (codes "null")).0 null in
      let none : number_of p word ≡ None = ap (number_of p) same ∙ ap (option_and_then (in_type p)) (null_is_no_number (is_signed p)) in
      cc)
  | inr other ↦ rw other (ap (λ o. option_map (λ x. Some x) (option_map (λ x. value.Primitive x) o)) is)
]

-- the number of a type with numbers below zero that a cell holds
pub cell_begins : (p : PType) (text rest : List ℕ) (z : ℤ) (cell : PrimitiveScalar) → is_signed p ≡ true → BeginsSigned text z rest → Some (short_value cell) ≡ option_map (λ n. Some (value.Primitive n)) (in_type p z)
    → (n : PValue) × BeginsNumber p text n rest × (short_value cell ≡ Some (value.Primitive n))
cell_begins p text rest z cell signed (word, begins, whole) same = by (in_type p z) refl
  where
    by : (o : Option PValue) → in_type p z ≡ o → (n : PValue) × BeginsNumber p text n rest × (short_value cell ≡ Some (value.Primitive n))
    by None none = let h = rw none at same in cc
    by (Some n) is = let h = rw is at same in (n, (word, begins, ap (option_and_then (in_type p)) (ap (λ b. whole_of b word) signed ∙ whole) ∙ is), cc)

-- the cell of a number behind a space
pub value_cell : (p : PType) (n : Nullability) (text behind rest : List ℕ) (cell : PrimitiveScalar) → text ≡ 32 ∷ behind → (v : PValue) × BeginsNumber p behind v rest × (short_value cell ≡ Some (value.Primitive v)) → EndsWord rest
    → BeginsValue (dtype.Primitive p n) text (short_value cell) rest
value_cell p n text behind rest cell is (v, (word, begins, number), made) ends =
    rw made (value_in_word (dtype.Primitive p n) text behind word rest (Some (value.Primitive v)) is begins ends (not_null p n word v number))

-- null, where the type has it
pub value_null_at : (t : DType) (text word : List ℕ) → word ≡ take (length text - 1) (drop 1 text) → is_nullable t ≡ true → 1 ≤ length text → get_or text 0 0 ≡ 32
    → 4 ≤ length word → get_or word 0 0 ≡ 110 → get_or word 1 0 ≡ 117 → get_or word 2 0 ≡ 108 → get_or word 3 0 ≡ 108 → EndsWord (take (length word - 4) (drop 4 word))
    → BeginsValue t text None (take (length word - 4) (drop 4 word))
value_null_at t text word is has some first long n u l m ends =
    value_in_word t text word (codes "null") _ None (uncons text 32 some first ∙ ap (λ w. 32 ∷ w) (sym is)) (record { split = front_is (codes "null") word long (n, (u, (l, (m, tt)))); some = omega arith; is_plain = refl }) ends (rw has refl)

-- ---- bytes

begins_x : (word digits : List ℕ) → word ≡ 120 ∷ digits → bytes_eq word (codes "null") ≡ false
begins_x word digits is = false_from_ne_true (bytes_eq word (codes "null")) (λ e. let first : 120 ≡ 110 = ap (λ (l : List ℕ). get_or l 0 0) (sym is ∙ (bytes_eq-Decides word (codes "null")).0 e) in omega arith)

bytes_in_word : (n : Nullability) (word digits bytes : List ℕ) → word ≡ 120 ∷ digits → bytes_of digits ≡ Some bytes → optional_value_of (dtype.Binary n) (Plain word) ≡ Some (Some (value.Binary bytes))
bytes_in_word n word digits bytes is read =
    let null = begins_x word digits is in
    let held : binary_of (120 ∷ digits) ≡ Some (value.Binary bytes) = rw read refl in
    rw null (ap (λ w. option_map (λ v. Some v) (binary_of w)) is ∙ ap (option_map (λ v. Some v)) held)

-- the bytes that pairs of digits write, behind a space and an `x`
pub value_bytes : (n : Nullability) (text behind rest bytes : List ℕ) → text ≡ 32 ∷ 120 ∷ behind → BeginsBytes behind bytes rest → EndsWord rest
    → BeginsValue (dtype.Binary n) text (Some (value.Binary bytes)) rest
value_bytes n text behind rest bytes is begins ends =
    let word = 120 ∷ begins.digits in
    let begun : BeginsWord (120 ∷ behind) word rest = record { split = ap (λ l. 120 ∷ l) begins.split; some = omega arith; is_plain = begins.is_plain } in
    value_in_word (dtype.Binary n) text (120 ∷ behind) word rest (Some (value.Binary bytes)) is begun ends (bytes_in_word n word begins.digits bytes refl begins.value)
