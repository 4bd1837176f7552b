-- Bytes at the front of a text, known one by one.
use Rattle.std.proofs.Common.{◌≡◌, ◌<◌, ◌≤◌, ◌-◌, ℕ, suc, true, List, [], ◌∷◌, ◌++◌, length, take, drop, get_or, refl, ap, ◌∙◌, arith}
use Rattle.std.proofs.lemmas.List.{take_rest}
use Rattle.std.specs.List.{list_all}
use Rattle.vortex_syntax.specs.Plain.{is_word_byte}
use Rattle.vortex_syntax.specs.PlainStatistics.{BeginsSpaced}

-- these bytes stand in the text from a place on
abbrev pub AreAt : List ℕ → ℕ → List ℕ → Type 0
AreAt text i [] = Unit {0}
AreAt text i (b ∷ bs) = (get_or text i 0 ≡ b) × AreAt text (suc i) bs

behind_one : (x : ℕ) (text : List ℕ) (i : ℕ) (bs : List ℕ) → AreAt (x ∷ text) (suc i) bs → AreAt text i bs
behind_one x text i [] are = tt
behind_one x text i (b ∷ bs) (is, more) = (is, behind_one x text (suc i) bs more)

front_of : (bs text : List ℕ) → length bs ≤ length text → AreAt text 0 bs → text ≡ bs ++ drop (length bs) text
front_of [] text long are = refl
front_of (b ∷ bs) [] long are = absurd (omega arith)
front_of (b ∷ bs) (x ∷ text) long (is, more) =
    ap (λ c. c ∷ text) is ∙ ap (λ l. b ∷ l) (front_of bs text (omega arith) (behind_one x text 0 bs more))

pub front_is : (bs text : List ℕ) → length bs ≤ length text → AreAt text 0 bs → text ≡ bs ++ take (length text - length bs) (drop (length bs) text)
front_is bs text long are = rw (take_rest text (length bs)) (front_of bs text long are)

-- a word in plain form at the front, behind one space
pub spaced_is : (word text : List ℕ) → list_all is_word_byte word ≡ true → 0 < length word → length (32 ∷ word) ≤ length text → AreAt text 0 (32 ∷ word)
    → BeginsSpaced text word (take (length text - length (32 ∷ word)) (drop (length (32 ∷ word)) text))
spaced_is word text plain some long are =
    (word ++ take (length text - length (32 ∷ word)) (drop (length (32 ∷ word)) text), front_is (32 ∷ word) text long are, record { split = refl; some = some; is_plain = plain })
