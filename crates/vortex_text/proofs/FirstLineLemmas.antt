-- The first line of a text whose front was passed.
use Rattle.std.proofs.Common.{◌≡◌, ◌<◌, ◌-◌, ◌==◌, ℕ, suc, zero, true, false, if◌then◌else◌, List, [], ◌∷◌, ◌++◌, length, take, get_or, refl, ap, sym, subst, ◌∙◌, inl, inr, arith}
use Rattle.std.proofs.lemmas.Bool.{and_parts, cases_Bool, false_from_ne_true}
use Rattle.std.proofs.lemmas.Bool.Decides.{nat_tests}
use Rattle.std.proofs.lemmas.List.Splits.{length-slice_split}
use Rattle.std.proofs.lemmas.Str.{IsUtf8-append, IsUtf8-from_ascii, IsUtf8-from_is_utf8, IsUtf8-past_char, encode_ascii, is_utf8-from_IsUtf8}
use Rattle.std.specs.List.{list_all, onto_first, slice_split}
use Rattle.std.specs.Str.{IsAscii, is_utf8}
use Rattle.std.specs.Str.Lines.{lines, lines_of_parts, strip_carriage_return}
use Rattle.vortex_syntax.proofs.FirstLine.{ends, lines_of_parts-more}
use Rattle.vortex_syntax.specs.Plain.{EndsWord, is_line_byte}
use Rattle.vortex_syntax.specs.Spelling.{IsParted}

-- ---- lines

-- a list that is cut before a carriage return at a place
abbrev cut_at : ℕ → List ℕ → List ℕ
cut_at n l = if get_or l n 0 == 13 then take n l else l

cut_behind : (b n : ℕ) (l : List ℕ) → cut_at (suc n) (b ∷ l) ≡ b ∷ cut_at n l
cut_behind b n l = elim (cases_Bool (get_or l n 0 == 13)) [ inl is ↦ rw is refl | inr isnt ↦ rw isnt refl ]

strip_behind : (b : ℕ) (p : List ℕ) → (b == 13) ≡ false → strip_carriage_return (b ∷ p) ≡ b ∷ strip_carriage_return p
strip_behind b [] other = rw other refl
strip_behind b (c ∷ p) other =
    let one_more : length (b ∷ c ∷ p) - 1 ≡ suc (length (c ∷ p) - 1) = omega arith in
    ap (λ n. cut_at n (b ∷ c ∷ p)) one_more ∙ cut_behind b (length (c ∷ p) - 1) (c ∷ p)

pub one_line : (l : List ℕ) → 0 < length l → lines_of_parts (l ∷ []) ≡ l ∷ []
one_line l some = let long : (length l == 0) ≡ false = grind (arith, nat_tests) in rw long refl

parts_behind : (b : ℕ) (parts : List (List ℕ)) (l : List ℕ) (ls : List (List ℕ)) → (b == 13) ≡ false → lines_of_parts parts ≡ l ∷ ls → lines_of_parts (onto_first b parts) ≡ (b ∷ l) ∷ ls
parts_behind b [] l ls other is = cc
parts_behind b ([] ∷ []) l ls other is = cc
parts_behind b ((c ∷ p) ∷ []) l ls other is =
    one_line (b ∷ c ∷ p) (omega arith) ∙ ap (onto_first b) (sym (one_line (c ∷ p) (omega arith)) ∙ is)
parts_behind b (p ∷ q ∷ ps) l ls other is = ap (λ x. x ∷ lines_of_parts (q ∷ ps)) (strip_behind b p other) ∙ ap (onto_first b) is

line_behind : (b : ℕ) (text l : List ℕ) (ls : List (List ℕ)) → is_line_byte b ≡ true → lines text ≡ l ∷ ls → lines (b ∷ text) ≡ (b ∷ l) ∷ ls
line_behind b text l ls clean is =
    let no_feed : (b == 10) ≡ false = grind (arith, nat_tests, clean) in
    let no_return : (b == 13) ≡ false = grind (arith, nat_tests, clean) in
    rw no_feed (parts_behind b (slice_split ends text) l ls no_return is)

-- bytes in front of the first line
pub lines_behind : (front text l : List ℕ) (ls : List (List ℕ)) → list_all is_line_byte front ≡ true → lines text ≡ l ∷ ls → lines (front ++ text) ≡ (front ++ l) ∷ ls
lines_behind [] text l ls clean is = is
lines_behind (b ∷ front) text l ls clean is = let (one, more) = and_parts _ _ clean in line_behind b (front ++ text) (front ++ l) ls one (lines_behind front text l ls more is)

-- a line that ends at once
pub lines_ended : (rest : List ℕ) → lines (10 ∷ rest) ≡ [] ∷ lines rest
lines_ended rest = lines_of_parts-more [] (slice_split ends rest) (omega (arith, length-slice_split ends rest))

first_of : (b : ℕ) (parts : List (List ℕ)) (l : List ℕ) (ls : List (List ℕ)) → (b == 13) ≡ false → lines_of_parts (onto_first b parts) ≡ l ∷ ls → get_or l 0 0 ≡ b
first_of b [] l ls other is = sym (ap (λ xs. get_or (get_or xs 0 []) 0 0) (sym (one_line (b ∷ []) (omega arith)) ∙ is))
first_of b (p ∷ []) l ls other is = sym (ap (λ xs. get_or (get_or xs 0 []) 0 0) (sym (one_line (b ∷ p) (omega arith)) ∙ is))
first_of b (p ∷ q ∷ ps) l ls other is = sym (ap (λ xs. get_or (get_or xs 0 []) 0 0) (ap (λ x. x ∷ lines_of_parts (q ∷ ps)) (sym (strip_behind b p other)) ∙ is))

pub parted_at : (l : List ℕ) → get_or l 0 0 ≡ 32 → IsParted l
parted_at [] is = cc
parted_at (b ∷ l) is = is

-- a line whose word has ended
pub line_parted : (text l : List ℕ) (ls : List (List ℕ)) → EndsWord text → lines text ≡ l ∷ ls → IsParted l
line_parted [] l ls end is = absurd end
line_parted (b ∷ text) l ls (inl space) is =
    parted_at l (first_of 32 (slice_split ends text) l ls refl (ap (λ c. lines (c ∷ text)) (sym space) ∙ is))
line_parted (b ∷ text) l ls (inr feed) is =
    subst IsParted (ap (λ xs. get_or xs 0 []) (sym (lines_ended text) ∙ ap (λ c. lines (c ∷ text)) (sym feed) ∙ is)) tt

-- ---- UTF-8

one_ascii : (b : ℕ) → b < 128 → IsAscii (b ∷ [])
one_ascii b low zero = low
one_ascii b low (suc i) = omega arith

utf8_one : (b : ℕ) (text : List ℕ) → is_line_byte b ≡ true → is_utf8 (b ∷ text) ≡ is_utf8 text
utf8_one b text clean =
    let low : b < 128 = grind (arith, nat_tests, clean) in
    elim (cases_Bool (is_utf8 text)) [
      | inl is ↦ is_utf8-from_IsUtf8 (b ∷ text) (IsUtf8-append (b ∷ []) text (IsUtf8-from_ascii (b ∷ []) (one_ascii b low)) (IsUtf8-from_is_utf8 text is)) ∙ sym is
      | inr isnt ↦ (false_from_ne_true _ (λ e.
          let rest = is_utf8-from_IsUtf8 text (IsUtf8-past_char (b ∷ text) text b (IsUtf8-from_is_utf8 (b ∷ text) e) (sym (ap (λ x. x ++ text) (encode_ascii b low)))) in cc) ∙ sym isnt)
    ]

pub utf8_behind : (front text : List ℕ) → list_all is_line_byte front ≡ true → is_utf8 (front ++ text) ≡ is_utf8 text
utf8_behind [] text clean = refl
utf8_behind (b ∷ front) text clean = let (one, more) = and_parts _ _ clean in utf8_one b (front ++ text) one ∙ utf8_behind front text more
