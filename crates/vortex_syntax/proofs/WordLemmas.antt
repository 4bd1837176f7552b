-- What a line's first word is.
use Rattle.std.proofs.Common.{◌≡◌, ◌<◌, ◌≤◌, ◌==◌, ◌||◌, ◌+◌, ◌-◌, ℕ, zero, suc, Bool, true, false, List, [], ◌∷◌, ◌++◌, Option, None, Some, length, nat_lt, position, take, drop, get_or, refl, ap, sym, ◌∙◌, inl, inr, arith, append_assoc, append-nil}
use Rattle.std.proofs.lemmas.Bool.{cases_Bool}
use Rattle.std.proofs.lemmas.Bool.Decides.{nat_tests}
use Rattle.std.proofs.lemmas.List.{drop_all, length-drop, take_all}
use Rattle.memchr.specs.Find.{IsFirstByte, Passes, is_byte2}
use Rattle.std.specs.List.{position_or_len}
use Rattle.vortex_syntax.specs.Copies.{first_is_copied}
use Rattle.vortex_syntax.specs.QuotedSteps.{escape_of, step_of}
use Rattle.vortex_syntax.specs.Words.{Token, Plain, Broken, Place, between, closed, plain, quoted, escaped, no_word, plain_word, words, words_from}

-- the words of a text between quotes whose bytes so far are w, after a step
abbrev pub after_quoted : List ℕ → Option (Option ℕ × List ℕ) → List Token
after_quoted w None = Broken ∷ []
after_quoted w (Some (None, rest)) = words_from rest (closed w)
after_quoted w (Some (Some b, rest)) = words_from rest (quoted (w ++ b ∷ []))

after_escape : (w bs : List ℕ) → words_from bs (escaped w) ≡ after_quoted w (escape_of bs)
after_escape w [] = refl
after_escape w (c ∷ bs) = elim (cases_Bool (c == 34 || c == 92)) [ inl is ↦ rw is refl | inr isnt ↦ rw isnt refl ]

pub quoted_step : (w bs : List ℕ) → words_from bs (quoted w) ≡ after_quoted w (step_of bs)
quoted_step w [] = refl
quoted_step w (b ∷ bs) = elim (cases_Bool (b == 34)) [
  | inl is ↦ rw is refl
  | inr isnt ↦ (elim (cases_Bool (b == 92)) [ inl is ↦ rw (isnt, is) (after_escape w bs) | inr none ↦ rw (isnt, none) refl ])
]

abbrev pub is_space : ℕ → Bool
is_space b = b == 32

pub words_space : (b : ℕ) (bs : List ℕ) → (b == 32) ≡ true → words (b ∷ bs) ≡ words bs
words_space b bs is = rw is refl

one_more : (n : ℕ) → 1 + n ≡ suc n
one_more n = omega arith

-- a word ends before the first space
pub plain_run : (w bs : List ℕ) → words_from bs (plain w) ≡ Plain (w ++ take (position_or_len is_space bs) bs) ∷ words (drop (position_or_len is_space bs) bs)
plain_run w [] = ap (λ l. Plain l ∷ []) (sym (append-nil w))
plain_run w (b ∷ bs) = elim (cases_Bool (b == 32)) [
  | inl is ↦ rw is (ap (λ l. Plain l ∷ words bs) (sym (append-nil w)) ∙ ap (λ ws. Plain (w ++ []) ∷ ws) (sym (words_space b bs is)))
  | inr isnt ↦ rw (isnt, one_more) (plain_run (w ++ b ∷ []) bs ∙ ap (λ l. Plain l ∷ words (drop (position_or_len is_space bs) bs)) (append_assoc w (b ∷ []) _))
]

pub words_plain : (text : List ℕ) → 0 < length text → (get_or text 0 0 == 32) ≡ false → (get_or text 0 0 == 34) ≡ false
    → words text ≡ Plain (take (position_or_len is_space text) text) ∷ words (drop (position_or_len is_space text) text)
words_plain [] some no_space no_quote = absurd (omega arith)
words_plain (b ∷ bs) some no_space no_quote = rw (no_space, no_quote, one_more) (plain_run (b ∷ []) bs)

-- a text between quotes has one more byte
pub quoted_more : (bytes rest after w : List ℕ) (b : ℕ) → step_of rest ≡ Some (Some b, after) → words_from bytes (quoted []) ≡ words_from rest (quoted w)
    → words_from bytes (quoted []) ≡ words_from after (quoted (w ++ b ∷ []))
quoted_more bytes rest after w b step h = h ∙ quoted_step w rest ∙ ap (after_quoted w) step

pub quoted_closed : (bytes rest after w : List ℕ) → step_of rest ≡ Some (None, after) → words_from bytes (quoted []) ≡ words_from rest (quoted w)
    → words_from bytes (quoted []) ≡ words_from after (closed w)
quoted_closed bytes rest after w step h = h ∙ quoted_step w rest ∙ ap (after_quoted w) step

pub quoted_broken : (bytes rest w : List ℕ) → step_of rest ≡ None → words_from bytes (quoted []) ≡ words_from rest (quoted w)
    → words_from bytes (quoted []) ≡ Broken ∷ []
quoted_broken bytes rest w step h = h ∙ quoted_step w rest ∙ ap (after_quoted w) step

found_at : (text : List ℕ) (end : ℕ) → position is_space text ≡ Some end → position_or_len is_space text ≡ end
found_at text end found = elim (cases_Bool (nat_lt (position_or_len is_space text) (length text))) [
  | inl is ↦ (let same = rw is at found in cc)
  | inr isnt ↦ (let same = rw isnt at found in cc)
]

pub words_split : (text : List ℕ) (end : ℕ) → 0 < length text → (get_or text 0 0 == 32) ≡ false → (get_or text 0 0 == 34) ≡ false → position is_space text ≡ Some end
    → words text ≡ Plain (take end text) ∷ words (drop end text)
words_split text end some no_space no_quote found =
    words_plain text some no_space no_quote ∙ ap (λ n. Plain (take n text) ∷ words (drop n text)) (found_at text end found)

pub words_whole : (text : List ℕ) → 0 < length text → (get_or text 0 0 == 32) ≡ false → (get_or text 0 0 == 34) ≡ false → position is_space text ≡ None
    → words text ≡ Plain text ∷ []
words_whole text some no_space no_quote none =
    let n = position_or_len is_space text in
    let past : length text ≤ n = elim (cases_Bool (nat_lt n (length text))) [
      | inl is ↦ (let same = rw is at none in cc)
      | inr isnt ↦ grind (arith, nat_tests)
    ] in
    words_plain text some no_space no_quote ∙ rw (take_all n text past, drop_all n text past) refl

-- in a word
abbrev pub is_within : Place → Bool
is_within between = false
is_within p = true

-- in a word between quotes
abbrev pub is_quoted : Place → Bool
is_quoted between = false
is_quoted (plain w) = false
is_quoted p = true

-- bytes in a word have a word
some_word : (bs : List ℕ) (p : Place) → is_within p ≡ true → no_word (words_from bs p) ≡ None
some_word [] between h = cc
some_word [] (plain w) h = refl
some_word [] (quoted w) h = refl
some_word [] (escaped w) h = refl
some_word [] (closed w) h = refl
some_word (b ∷ bs) between h = cc
some_word (b ∷ bs) (plain w) h = elim (cases_Bool (b == 32)) [ inl is ↦ rw is refl | inr isnt ↦ rw isnt (some_word bs (plain (w ++ b ∷ [])) refl) ]
some_word (b ∷ bs) (quoted w) h = elim (cases_Bool (b == 34)) [
  | inl is ↦ rw is (some_word bs (closed w) refl)
  | inr isnt ↦ (elim (cases_Bool (b == 92)) [ inl is ↦ rw (isnt, is) (some_word bs (escaped w) refl) | inr none ↦ rw (isnt, none) (some_word bs (quoted (w ++ b ∷ [])) refl) ])
]
some_word (b ∷ bs) (escaped w) h = elim (cases_Bool (b == 34 || b == 92)) [ inl is ↦ rw is (some_word bs (quoted (w ++ b ∷ [])) refl) | inr isnt ↦ rw isnt refl ]
some_word (b ∷ bs) (closed w) h = elim (cases_Bool (b == 32)) [ inl is ↦ rw is refl | inr isnt ↦ rw isnt refl ]

-- a word between quotes isn't one without
no_plain : (bs : List ℕ) (p : Place) → is_quoted p ≡ true → plain_word (words_from bs p) ≡ None
no_plain [] between h = cc
no_plain [] (plain w) h = cc
no_plain [] (quoted w) h = refl
no_plain [] (escaped w) h = refl
no_plain [] (closed w) h = refl
no_plain (b ∷ bs) between h = cc
no_plain (b ∷ bs) (plain w) h = cc
no_plain (b ∷ bs) (quoted w) h = elim (cases_Bool (b == 34)) [
  | inl is ↦ rw is (no_plain bs (closed w) refl)
  | inr isnt ↦ (elim (cases_Bool (b == 92)) [ inl is ↦ rw (isnt, is) (no_plain bs (escaped w) refl) | inr none ↦ rw (isnt, none) (no_plain bs (quoted (w ++ b ∷ [])) refl) ])
]
no_plain (b ∷ bs) (escaped w) h = elim (cases_Bool (b == 34 || b == 92)) [ inl is ↦ rw is (no_plain bs (quoted (w ++ b ∷ [])) refl) | inr isnt ↦ rw isnt refl ]
no_plain (b ∷ bs) (closed w) h = elim (cases_Bool (b == 32)) [ inl is ↦ rw is refl | inr isnt ↦ rw isnt refl ]

pub has_word : (text : List ℕ) → 0 < length text → (get_or text 0 0 == 32) ≡ false → no_word (words text) ≡ None
has_word [] some no_space = absurd (omega arith)
has_word (b ∷ bs) some no_space = elim (cases_Bool (b == 34)) [
  | inl is ↦ rw (no_space, is) (some_word bs (quoted []) refl)
  | inr isnt ↦ rw (no_space, isnt) (some_word bs (plain (b ∷ [])) refl)
]

pub begins_quoted : (text : List ℕ) → 0 < length text → get_or text 0 0 ≡ 34 → plain_word (words text) ≡ None
begins_quoted [] some quote = absurd (omega arith)
begins_quoted (b ∷ bs) some quote = rw quote (no_plain bs (quoted []) refl)

counted : (ws : List Token) → no_word ws ≡ None → 0 < length ws
counted [] none = cc
counted (w ∷ ws) none = omega arith

pub some_words : (text : List ℕ) → 0 < length text → (get_or text 0 0 == 32) ≡ false → 0 < length (words text)
some_words text some no_space = counted (words text) (has_word text some no_space)

-- a text between quotes that has a byte so far, or is about to have one
abbrev pub has_byte : Place → Bool
has_byte between = false
has_byte (plain w) = false
has_byte (quoted []) = false
has_byte (quoted (b ∷ bs)) = true
has_byte (escaped w) = true
has_byte (closed []) = false
has_byte (closed (b ∷ bs)) = true

more_bytes : (w : List ℕ) (b : ℕ) (bs : List ℕ) → has_byte (quoted (w ++ b ∷ bs)) ≡ true
more_bytes [] b bs = refl
more_bytes (c ∷ w) b bs = refl

-- it is copied
copied : (bs : List ℕ) (p : Place) → has_byte p ≡ true → first_is_copied (words_from bs p) ≡ true
copied [] between h = cc
copied [] (plain w) h = cc
copied [] (quoted []) h = cc
copied [] (quoted (c ∷ w)) h = refl
copied [] (escaped w) h = refl
copied [] (closed []) h = cc
copied [] (closed (c ∷ w)) h = refl
copied (b ∷ bs) between h = cc
copied (b ∷ bs) (plain w) h = cc
copied (b ∷ bs) (quoted []) h = cc
copied (b ∷ bs) (quoted (c ∷ w)) h = elim (cases_Bool (b == 34)) [
  | inl is ↦ rw is (copied bs (closed (c ∷ w)) refl)
  | inr isnt ↦ (elim (cases_Bool (b == 92)) [ inl is ↦ rw (isnt, is) (copied bs (escaped (c ∷ w)) refl) | inr none ↦ rw (isnt, none) (copied bs (quoted (c ∷ (w ++ b ∷ []))) refl) ])
]
copied (b ∷ bs) (escaped w) h = elim (cases_Bool (b == 34 || b == 92)) [ inl is ↦ rw is (copied bs (quoted (w ++ b ∷ [])) (more_bytes w b [])) | inr isnt ↦ rw isnt refl ]
copied (b ∷ bs) (closed []) h = cc
copied (b ∷ bs) (closed (c ∷ w)) h = elim (cases_Bool (b == 32)) [ inl is ↦ rw is refl | inr isnt ↦ rw isnt refl ]

-- a text between quotes to which a byte is added is copied
pub quoted_copied : (bytes rest after w : List ℕ) (b : ℕ) → step_of rest ≡ Some (Some b, after) → words_from bytes (quoted []) ≡ words_from rest (quoted w)
    → first_is_copied (words_from bytes (quoted [])) ≡ true
quoted_copied bytes rest after w b step h = ap first_is_copied (quoted_more bytes rest after w b step h) ∙ copied after (quoted (w ++ b ∷ [])) (more_bytes w b [])

-- none of the first n bytes is a quote or a backslash
abbrev pub IsTextRun : List ℕ → ℕ → Type 0
IsTextRun bs n = (k : ℕ) → k < n → ¬ Passes (is_byte2 34 92) bs k

-- the first byte of a run is neither
text_byte : (b : ℕ) (bs : List ℕ) (n : ℕ) → IsTextRun (b ∷ bs) (suc n) → (b == 34 || b == 92) ≡ false
text_byte b bs n free = elim (cases_Bool (b == 34 || b == 92)) [ inl is ↦ absurd (free 0 (omega arith) is) | inr isnt ↦ isnt ]

-- what follows it is a run
text_after : (b : ℕ) (bs : List ℕ) (n : ℕ) → IsTextRun (b ∷ bs) (suc n) → IsTextRun bs n
text_after b bs n free k below = free (suc k) (omega arith)

-- a byte that is neither goes into the text
text_step : (b : ℕ) (bs w : List ℕ) → (b == 34 || b == 92) ≡ false → words_from (b ∷ bs) (quoted w) ≡ words_from bs (quoted (w ++ b ∷ []))
text_step b bs w neither = elim (cases_Bool (b == 34)) [
  | inl is ↦ (let same = rw is at neither in cc)
  | inr isnt ↦ (let other : (b == 92) ≡ false = (let same = rw isnt at neither in cc) in rw (isnt, other) refl)
]

-- a run goes into the text as it is
run_into : (bs w : List ℕ) (n : ℕ) → IsTextRun bs n → words_from bs (quoted w) ≡ words_from (drop n bs) (quoted (w ++ take n bs))
run_into bs w zero free = ap (λ v. words_from bs (quoted v)) (sym (append-nil w))
run_into [] w (suc n) free = refl
run_into (b ∷ bs) w (suc n) free =
    text_step b bs w (text_byte b bs n free)
    ∙ run_into bs (w ++ b ∷ []) n (text_after b bs n free)
    ∙ ap (λ v. words_from (drop n bs) (quoted v)) (append_assoc w (b ∷ []) (take n bs))

-- the bytes from a place on, as indexing cuts them out
abbrev pub bytes_from : ℕ → List ℕ → List ℕ
bytes_from n bs = take (length bs - n) (drop n bs)

bytes_from_drop : (n : ℕ) (bs : List ℕ) → bytes_from n bs ≡ drop n bs
bytes_from_drop n bs = take_all (length bs - n) (drop n bs) (omega (arith, length-drop n bs))

-- the bytes before the first quote or backslash go into the text
pub run_read : (bytes rest w v : List ℕ) (n : ℕ) → IsFirstByte (is_byte2 34 92) rest (Some n) → v ≡ w ++ take n rest → words_from bytes (quoted []) ≡ words_from rest (quoted w)
    → words_from bytes (quoted []) ≡ words_from (bytes_from n rest) (quoted v)
run_read bytes rest w v n found added h =
    h ∙ run_into rest w n (λ k below. found.0.before k (omega arith) below) ∙ ap (λ bs. words_from bs (quoted (w ++ take n rest))) (sym (bytes_from_drop n rest))
    ∙ ap (λ u. words_from (bytes_from n rest) (quoted u)) (sym added)

-- with neither, no quote closes the text
pub run_broken : (bytes rest w : List ℕ) → IsFirstByte (is_byte2 34 92) rest None → words_from bytes (quoted []) ≡ words_from rest (quoted w)
    → words_from bytes (quoted []) ≡ Broken ∷ []
run_broken bytes rest w none h =
    h ∙ run_into rest w (length rest) (λ k below. none k (omega arith) below)
    ∙ ap (λ bs. words_from bs (quoted (w ++ take (length rest) rest))) (drop_all (length rest) rest (omega arith))

-- a text to which bytes are added is copied
text_copied : (bs w xs : List ℕ) → 0 < length xs → first_is_copied (words_from bs (quoted (w ++ xs))) ≡ true
text_copied bs w [] some = absurd (omega arith)
text_copied bs w (x ∷ xs) some = copied bs (quoted (w ++ x ∷ xs)) (more_bytes w x xs)

-- and so is one that a run of some bytes goes into
pub run_copied : (bytes rest w : List ℕ) (n : ℕ) → IsFirstByte (is_byte2 34 92) rest (Some n) → words_from bytes (quoted []) ≡ words_from rest (quoted w)
    → 0 < length (take n rest) → first_is_copied (words_from bytes (quoted [])) ≡ true
run_copied bytes rest w n found h some = ap first_is_copied (run_read bytes rest w (w ++ take n rest) n found refl h) ∙ text_copied (bytes_from n rest) w (take n rest) some
