-- Words that are written are read back, and every line without a broken word is so written.
use Rattle.std.proofs.Common.{◌≡◌, ◌≢◌, ◌==◌, ◌||◌, ◌++◌, ℕ, true, false, List, [], ◌∷◌, refl, ap, sym, subst, ◌∙◌, inl, inr, append_assoc, append-nil}
use Rattle.std.proofs.lemmas.Bool.{cases_Bool, eq-eqb, eqb-true, eqb-false, ne_eqb}
use Rattle.std.specs.List.{AllByRecursion, flat_map, list_any}
use Rattle.vortex_syntax.proofs.WordLemmas.{words_space}
use Rattle.vortex_syntax.specs.Spelling.{CanBeSpelled, IsLineOf, IsParted, LinesAreWords, WordsAreReadBack, is_broken, spelled, spelled_byte}
use Rattle.vortex_syntax.specs.Words.{Token, Plain, Quoted, Broken, Place, between, closed, plain, quoted, escaped, words, words_from}

abbrev AreSpaces : List ℕ → Type 0
AreSpaces bs = AllByRecursion (λ b. b ≡ 32) bs

abbrev HasNoSpace : List ℕ → Type 0
HasNoSpace bs = AllByRecursion (λ c. c ≢ 32) bs

-- ---- words that are written are read back

space_test : (b : ℕ) → b ≡ 32 → (b == 32) ≡ true
space_test b is = eq-eqb b 32 is

spaces_skipped : (front l : List ℕ) → AreSpaces front → words (front ++ l) ≡ words l
spaces_skipped [] l are = refl
spaces_skipped (b ∷ front) l are = words_space b (front ++ l) (space_test b are.0) ∙ spaces_skipped front l are.1

only_spaces : (line : List ℕ) → AreSpaces line → words line ≡ []
only_spaces [] are = refl
only_spaces (b ∷ line) are = words_space b line (space_test b are.0) ∙ only_spaces line are.1

plain_ends : (w rest : List ℕ) → IsParted rest → words_from rest (plain w) ≡ Plain w ∷ words rest
plain_ends w [] parted = refl
plain_ends w (b ∷ rest) parted = rw (space_test b parted) refl

plain_back : (w u rest : List ℕ) → HasNoSpace u → IsParted rest → words_from (u ++ rest) (plain w) ≡ Plain (w ++ u) ∷ words rest
plain_back w [] rest none parted = plain_ends w rest parted ∙ ap (λ l. Plain l ∷ words rest) (sym (append-nil w))
plain_back w (c ∷ u) rest none parted =
    rw (ne_eqb c 32 none.0) (plain_back (w ++ c ∷ []) u rest none.1 parted ∙ ap (λ l. Plain l ∷ words rest) (append_assoc w (c ∷ []) u))

closed_ends : (w rest : List ℕ) → IsParted rest → words_from rest (closed w) ≡ Quoted w ∷ words rest
closed_ends w [] parted = refl
closed_ends w (b ∷ rest) parted = rw (space_test b parted) refl

-- a byte that is neither a quote nor a backslash
neither : (c : ℕ) → (c == 34 || c == 92) ≡ false → ((c == 34) ≡ false) × ((c == 92) ≡ false)
neither c none = elim (cases_Bool (c == 34)) [
  | inl is ↦ (let h = rw is at none in cc)
  | inr isnt ↦ (isnt, rw isnt at none)
]

quoted_back : (w t rest : List ℕ) → IsParted rest → words_from (flat_map spelled_byte t ++ 34 ∷ rest) (quoted w) ≡ Quoted (w ++ t) ∷ words rest
quoted_back w [] rest parted = closed_ends w rest parted ∙ ap (λ l. Quoted l ∷ words rest) (sym (append-nil w))
quoted_back w (c ∷ t) rest parted =
    let more = quoted_back (w ++ c ∷ []) t rest parted ∙ ap (λ l. Quoted l ∷ words rest) (append_assoc w (c ∷ []) t) in
    elim (cases_Bool (c == 34 || c == 92)) [
      | inl is ↦ rw (is, is) more
      | inr isnt ↦ (let other = neither c isnt in rw (isnt, other.0, other.1) more)
    ]

pub quotes_open : (f rest : List ℕ) → (34 ∷ (f ++ 34 ∷ [])) ++ rest ≡ 34 ∷ (f ++ 34 ∷ rest)
quotes_open f rest = ap (λ l. 34 ∷ l) (append_assoc f (34 ∷ []) rest)

pub word_back : (w : Token) (rest : List ℕ) → CanBeSpelled w → IsParted rest → words (spelled w ++ rest) ≡ w ∷ words rest
word_back (Plain []) rest can parted = absurd can
word_back (Plain (b ∷ bs)) rest can parted = rw (ne_eqb b 32 can.1.0, ne_eqb b 34 can.0) (plain_back (b ∷ []) bs rest can.1.1 parted)
word_back (Quoted t) rest can parted = ap words (quotes_open (flat_map spelled_byte t) rest) ∙ quoted_back [] t rest parted
word_back Broken rest can parted = absurd can

pub read_back : WordsAreReadBack
read_back line [] are = only_spaces line are
read_back line (w ∷ ws) (spaces, rest, same, are, can, parted, more) =
    ap words same ∙ spaces_skipped spaces (spelled w ++ rest) are ∙ word_back w rest can parted ∙ ap (λ l. w ∷ l) (read_back rest ws more)

-- ---- every line without a broken word is so written

space_in_front : (ws : List Token) (b : ℕ) (line : List ℕ) → b ≡ 32 → IsLineOf ws line → IsLineOf ws (b ∷ line)
space_in_front [] b line is are = (is, are)
space_in_front (w ∷ ws) b line is (spaces, rest, same, are, can, parted, more) = (b ∷ spaces, rest, ap (λ l. b ∷ l) same, (is, are), can, parted, more)

-- a word without quotes, of which these bytes were passed, goes on with u
record PlainOn (w : List ℕ) (ws : List Token) (line : List ℕ) : Type 0 where
  u : List ℕ
  rest : List ℕ
  later : List Token
  words_are : ws ≡ Plain (w ++ u) ∷ later
  line_is : line ≡ u ++ rest
  no_space : HasNoSpace u
  parted : IsParted rest
  lined : IsLineOf later rest

-- behind the quote that closes a word
record ClosedOn (w : List ℕ) (ws : List Token) (line : List ℕ) : Type 0 where
  later : List Token
  words_are : ws ≡ Quoted w ∷ later
  parted : IsParted line
  lined : IsLineOf later line

-- a word between quotes, of whose text these bytes were passed, goes on with t
record QuotedOn (w : List ℕ) (ws : List Token) (line : List ℕ) : Type 0 where
  t : List ℕ
  rest : List ℕ
  later : List Token
  words_are : ws ≡ Quoted (w ++ t) ∷ later
  line_is : line ≡ flat_map spelled_byte t ++ 34 ∷ rest
  parted : IsParted rest
  lined : IsLineOf later rest

-- behind a backslash
record EscapedOn (w : List ℕ) (ws : List Token) (line : List ℕ) : Type 0 where
  c : ℕ
  next : List ℕ
  line_is : line ≡ c ∷ next
  is_escape : (c == 34 || c == 92) ≡ true
  on : QuotedOn (w ++ c ∷ []) ws next

abbrev GoesOn : Place → List Token → List ℕ → Type 0
GoesOn between ws line = IsLineOf ws line
GoesOn (plain w) ws line = PlainOn w ws line
GoesOn (quoted w) ws line = QuotedOn w ws line
GoesOn (escaped w) ws line = EscapedOn w ws line
GoesOn (closed w) ws line = ClosedOn w ws line

plain_starts : (b : ℕ) (ws : List Token) (line : List ℕ) → (b == 32) ≡ false → (b == 34) ≡ false → PlainOn (b ∷ []) ws line → IsLineOf ws (b ∷ line)
plain_starts b ws line no_space no_quote on =
    subst (λ (l : List Token). IsLineOf l (b ∷ line)) (sym on.words_are)
    ([], on.rest, ap (λ l. b ∷ l) on.line_is, tt, (eqb-false b 34 no_quote, (eqb-false b 32 no_space, on.no_space)), on.parted, on.lined)

quote_starts : (b : ℕ) (ws : List Token) (line : List ℕ) → (b == 34) ≡ true → QuotedOn [] ws line → IsLineOf ws (b ∷ line)
quote_starts b ws line is on =
    let quote : b ∷ line ≡ 34 ∷ (flat_map spelled_byte on.t ++ 34 ∷ on.rest) = ap (λ (x : ℕ). x ∷ line) (eqb-true b 34 is) ∙ ap (λ l. 34 ∷ l) on.line_is in
    subst (λ (l : List Token). IsLineOf l (b ∷ line)) (sym on.words_are)
    ([], on.rest, quote ∙ sym (quotes_open (flat_map spelled_byte on.t) on.rest), tt, tt, on.parted, on.lined)

plain_more : (w : List ℕ) (b : ℕ) (ws : List Token) (line : List ℕ) → (b == 32) ≡ false → PlainOn (w ++ b ∷ []) ws line → PlainOn w ws (b ∷ line)
plain_more w b ws line no_space on = record {
  u = b ∷ on.u;
  rest = on.rest;
  later = on.later;
  words_are = on.words_are ∙ ap (λ l. Plain l ∷ on.later) (append_assoc w (b ∷ []) on.u);
  line_is = ap (λ l. b ∷ l) on.line_is;
  no_space = (eqb-false b 32 no_space, on.no_space);
  parted = on.parted;
  lined = on.lined;
}

plain_stops : (w : List ℕ) (b : ℕ) (ws : List Token) (line : List ℕ) → b ≡ 32 → IsLineOf ws line → PlainOn w (Plain w ∷ ws) (b ∷ line)
plain_stops w b ws line is lined = record {
  u = [];
  rest = b ∷ line;
  later = ws;
  words_are = ap (λ l. Plain l ∷ ws) (sym (append-nil w));
  line_is = refl;
  no_space = tt;
  parted = is;
  lined = space_in_front ws b line is lined;
}

plain_at_end : (w : List ℕ) → PlainOn w (Plain w ∷ []) []
plain_at_end w = record {
  u = [];
  rest = [];
  later = [];
  words_are = ap (λ l. Plain l ∷ []) (sym (append-nil w));
  line_is = refl;
  no_space = tt;
  parted = tt;
  lined = tt;
}

quoted_closes : (w : List ℕ) (b : ℕ) (ws : List Token) (line : List ℕ) → (b == 34) ≡ true → ClosedOn w ws line → QuotedOn w ws (b ∷ line)
quoted_closes w b ws line is on = record {
  t = [];
  rest = line;
  later = on.later;
  words_are = on.words_are ∙ ap (λ l. Quoted l ∷ on.later) (sym (append-nil w));
  line_is = ap (λ (x : ℕ). x ∷ line) (eqb-true b 34 is);
  parted = on.parted;
  lined = on.lined;
}

quoted_escapes : (w : List ℕ) (b : ℕ) (ws : List Token) (line : List ℕ) → (b == 92) ≡ true → EscapedOn w ws line → QuotedOn w ws (b ∷ line)
quoted_escapes w b ws line is on =
    let more = on.on in
    let after : line ≡ on.c ∷ (flat_map spelled_byte more.t ++ 34 ∷ more.rest) = on.line_is ∙ ap (λ l. on.c ∷ l) more.line_is in
    record {
      t = on.c ∷ more.t;
      rest = more.rest;
      later = more.later;
      words_are = more.words_are ∙ ap (λ l. Quoted l ∷ more.later) (append_assoc w (on.c ∷ []) more.t);
      line_is = rw on.is_escape (ap (λ (x : ℕ). x ∷ line) (eqb-true b 92 is) ∙ ap (λ l. 92 ∷ l) after);
      parted = more.parted;
      lined = more.lined;
    }

quoted_goes : (w : List ℕ) (b : ℕ) (ws : List Token) (line : List ℕ) → (b == 34) ≡ false → (b == 92) ≡ false → QuotedOn (w ++ b ∷ []) ws line → QuotedOn w ws (b ∷ line)
quoted_goes w b ws line no_quote no_escape on = record {
  t = b ∷ on.t;
  rest = on.rest;
  later = on.later;
  words_are = on.words_are ∙ ap (λ l. Quoted l ∷ on.later) (append_assoc w (b ∷ []) on.t);
  line_is = rw (no_quote, no_escape) (ap (λ l. b ∷ l) on.line_is);
  parted = on.parted;
  lined = on.lined;
}

goes_on : (line : List ℕ) (p : Place) → list_any is_broken (words_from line p) ≡ false → GoesOn p (words_from line p) line
goes_on [] between h = tt
goes_on [] (plain w) h = plain_at_end w
goes_on [] (quoted w) h = cc
goes_on [] (escaped w) h = cc
goes_on [] (closed w) h = record { later = []; words_are = refl; parted = tt; lined = tt }
goes_on (b ∷ line) between h = elim (cases_Bool (b == 32)) [
  | inl is ↦ rw is (space_in_front (words line) b line (eqb-true b 32 is) (goes_on line between (rw is at h)))
  | inr isnt ↦ (elim (cases_Bool (b == 34)) [
    | inl quote ↦ rw (isnt, quote) (quote_starts b (words_from line (quoted [])) line quote (goes_on line (quoted []) (rw (isnt, quote) at h)))
    | inr none ↦ rw (isnt, none) (plain_starts b (words_from line (plain (b ∷ []))) line isnt none (goes_on line (plain (b ∷ [])) (rw (isnt, none) at h)))
  ])
]
goes_on (b ∷ line) (plain w) h = elim (cases_Bool (b == 32)) [
  | inl is ↦ rw is (plain_stops w b (words line) line (eqb-true b 32 is) (goes_on line between (rw is at h)))
  | inr isnt ↦ rw isnt (plain_more w b (words_from line (plain (w ++ b ∷ []))) line isnt (goes_on line (plain (w ++ b ∷ [])) (rw isnt at h)))
]
goes_on (b ∷ line) (quoted w) h = elim (cases_Bool (b == 34)) [
  | inl is ↦ rw is (quoted_closes w b (words_from line (closed w)) line is (goes_on line (closed w) (rw is at h)))
  | inr isnt ↦ (elim (cases_Bool (b == 92)) [
    | inl is ↦ rw (isnt, is) (quoted_escapes w b (words_from line (escaped w)) line is (goes_on line (escaped w) (rw (isnt, is) at h)))
    | inr none ↦ rw (isnt, none) (quoted_goes w b (words_from line (quoted (w ++ b ∷ []))) line isnt none (goes_on line (quoted (w ++ b ∷ [])) (rw (isnt, none) at h)))
  ])
]
goes_on (b ∷ line) (escaped w) h = elim (cases_Bool (b == 34 || b == 92)) [
  | inl is ↦ rw is (record { c = b; next = line; line_is = refl; is_escape = is; on = goes_on line (quoted (w ++ b ∷ [])) (rw is at h) })
  | inr isnt ↦ absurd (let bad = rw isnt at h in cc)
]
goes_on (b ∷ line) (closed w) h = elim (cases_Bool (b == 32)) [
  | inl is ↦ rw is (record { later = words line; words_are = refl; parted = eqb-true b 32 is; lined = space_in_front (words line) b line (eqb-true b 32 is) (goes_on line between (rw is at h)) })
  | inr isnt ↦ absurd (let bad = rw isnt at h in cc)
]

pub lines_are_words : LinesAreWords
lines_are_words line whole = goes_on line between whole
