-- A text from the first place on at which a pattern may match has a match at some end if and only if the whole has.
use Rattle.std.proofs.Common.{◌≡◌, ℕ, suc, ◌+◌, ◌<◌, ◌≤◌, Bool, true, false, not, ◌&&◌, ◌||◌, ◌==◌, List, [], ◌∷◌, ◌++◌, length, take, drop, slice_index, Option, Some, None, take_all, refl, sym, ap, subst, ◌∙◌, arith, length-append, length-drop, append_assoc, ◌⊎◌, inl, inr, ⊎_elim}
use Rattle.std.proofs.lemmas.List.{take-append-drop, drop-append-le, length-take, length-take-le, get_or-take, get_or_append_left, get_or-append-add}
use Rattle.std.proofs.Math.Seq.{drop-append_seam}
use Rattle.std.proofs.lemmas.Bool.{eqb-true, eq-eqb, cases_Bool, cases_lt, false≢true}
use Rattle.std.proofs.lemmas.Bool.Decides.{nat_tests}
use Rattle.std.specs.Prelude.{encode_utf8_all}
use Rattle.std.specs.Char.{to_ascii_lowercase, to_ascii_uppercase, encode_utf8}
use Rattle.std.specs.Str.{chars, IsUtf8, IsCharBoundary}
use Rattle.std.proofs.lemmas.Str.{IsUtf8-take, IsCharBoundary-start, IsCharBoundary-before_ascii, encodes-append, encodes-chars, chars-append, length-le-encodes, encode_ascii}
use Rattle.memchr.specs.Find.{FindsNeedle, IsFirstByte, OccursAt, Passes, is_byte2, is_byte3}
use Rattle.vortex_expr.specs.declared.like.Item.{Item}
use Rattle.vortex_expr.specs.declared.like.Item.TheVariants.{Char}
use Rattle.vortex_expr.specs.Patterns.Chance.{IsFromFirst, is_sign_or_letter}
use Rattle.vortex_expr.specs.Patterns.Like.{items, like, some_end, folded, sign_of, items_from, items_after}
use Rattle.vortex_expr.proofs.Patterns.PieceLemmas.{some_end-drop, length-folded}

-- a text in UTF-8, split at a character
parted : (bs : List ℕ) (place : ℕ) → IsUtf8 bs → IsCharBoundary bs place → chars bs ≡ chars (take place bs) ++ chars (drop place bs)
parted bs place u b = ap chars (sym (take-append-drop place bs)) ∙ chars-append (take place bs) (drop place bs) (IsUtf8-take bs place u b)

-- a text's bytes are those of its characters, wherever these are split
bytes_split : (bs ws ds : List ℕ) → IsUtf8 bs → chars bs ≡ ws ++ ds → bs ≡ encode_utf8_all ws ++ encode_utf8_all ds
bytes_split bs ws ds u e = sym (encodes-chars bs u) ∙ ap encode_utf8_all e ∙ encodes-append ws ds

-- what the characters before a place are, the first k of them and the others
before_place : (us vs : List ℕ) (k : ℕ) → k < length us → length (encode_utf8_all (take k us)) < length (encode_utf8_all us)
before_place us vs k l =
    let split : encode_utf8_all us ≡ encode_utf8_all (take k us) ++ encode_utf8_all (drop k us) = ap encode_utf8_all (sym (take-append-drop k us)) ∙ encodes-append (take k us) (drop k us) in
    let size = ap length split ∙ length-append (encode_utf8_all (take k us)) (encode_utf8_all (drop k us)) in
    let some = length-le-encodes (drop k us) in
    let left = length-drop k us in
    omega arith

-- no end that was passed over passes the test
pub from_first : (test : List ℕ → Bool) (P : ℕ → Type 0) (bs rest : List ℕ) → IsFromFirst P bs rest
    → ((ws ds : List ℕ) → chars bs ≡ ws ++ ds → test ds ≡ true → P (length (encode_utf8_all ws)))
    → (some_end test (chars rest) ≡ some_end test (chars bs)) × (length (chars rest) ≤ length (chars bs))
from_first test P bs rest f here =
    let u = f.text in
    let us = chars (take f.place bs) in
    let vs = chars (drop f.place bs) in
    let split : chars bs ≡ us ++ vs = parted bs f.place u f.boundary in
    let left : chars rest ≡ vs = ap chars f.is in
    let size = ap length split ∙ length-append us vs in
    let same_size = ap length left in
    let until : length (encode_utf8_all us) ≡ f.place = ap length (encodes-chars (take f.place bs) (IsUtf8-take bs f.place u f.boundary)) ∙ length-take-le f.place bs f.boundary.0 in
    let seam : drop (length us) (chars bs) ≡ vs = ap (drop (length us)) split ∙ drop-append_seam us vs in (
      ap (some_end test) (left ∙ sym seam) ∙ some_end-drop test (chars bs) (length us)
          (λ k l le m.
          let cut : chars bs ≡ take k us ++ (drop k us ++ vs) = split ∙ ap (λ xs. xs ++ vs) (sym (take-append-drop k us)) ∙ append_assoc (take k us) (drop k us) vs in
          let after : drop k (chars bs) ≡ drop k us ++ vs = ap (drop k) split ∙ drop-append-le k us vs (omega arith) in
          let short = before_place us vs k l in
          f.none (length (encode_utf8_all (take k us))) (omega arith) (omega arith) (here (take k us) (drop k us ++ vs) cut (ap test (sym after) ∙ m))),
      omega arith,
    )

-- what occurs at the front of the characters that are left occurs where these begin
pub OccursAt-left : (bs ws ds run : List ℕ) → IsUtf8 bs → chars bs ≡ ws ++ ds → OccursAt (encode_utf8_all ds) run 0 → OccursAt bs run (length (encode_utf8_all ws))
OccursAt-left bs ws ds run u e o =
    let split = bytes_split bs ws ds u e in
    let size = ap length split ∙ length-append (encode_utf8_all ws) (encode_utf8_all ds) in
    let fits = o.fits in
    record {
      fits = omega arith;
      reads = λ j l. ap (λ xs. slice_index xs (length (encode_utf8_all ws) + j)) split ∙ get_or-append-add (encode_utf8_all ws) (encode_utf8_all ds) j 0 ∙ ap (slice_index (encode_utf8_all ds)) (omega arith) ∙ o.reads j l;
    }

OccursAt-front : (xs ys : List ℕ) → OccursAt (xs ++ ys) xs 0
OccursAt-front xs ys = record {
  fits = omega (arith, length-append xs ys);
  reads = λ j l. ap (slice_index (xs ++ ys)) (omega arith) ∙ get_or_append_left xs ys 0 j l;
}

-- where a run occurs that is a text, a character begins
pub OccursAt-boundary : (bs run : List ℕ) (k : ℕ) → IsUtf8 run → 0 < length run → OccursAt bs run k → IsCharBoundary bs k
OccursAt-boundary bs run k u some o =
    let fits = o.fits in
    let first : slice_index bs k ≡ slice_index run 0 = ap (slice_index bs) (omega arith) ∙ o.reads 0 some in
    (omega arith, λ l high. let lead = (IsCharBoundary-start run u).1 some (omega arith) in omega arith)

-- the same finding, of equal bytes
pub FindsNeedle-same : (hay needle bs run : List ℕ) (r s : Option ℕ) → hay ≡ bs → needle ≡ run → r ≡ s → FindsNeedle hay needle 0 r → FindsNeedle bs run 0 s
FindsNeedle-same hay needle bs run r s e f g h =
    subst (FindsNeedle bs run 0) g (subst (λ xs. FindsNeedle bs xs 0 r) f (subst (λ xs. FindsNeedle xs needle 0 r) e h))

pub IsFirstByte-same : (test : ℕ → Bool) (hay bs : List ℕ) (r s : Option ℕ) → hay ≡ bs → r ≡ s → IsFirstByte test hay r → IsFirstByte test bs s
IsFirstByte-same test hay bs r s e g h = subst (IsFirstByte test bs) g (subst (λ xs. IsFirstByte test xs r) e h)

-- no byte of xs passes the test
abbrev pub IsFree : (ℕ → Bool) → List ℕ → Type 0
IsFree test xs = (k : ℕ) → k < length xs → ¬ Passes test xs k

IsFree-right : (test : ℕ → Bool) (xs ys : List ℕ) → IsFree test (xs ++ ys) → IsFree test ys
IsFree-right test [] ys h = h
IsFree-right test (x ∷ xs) ys h = IsFree-right test xs ys (λ k l p. h (suc k) (omega arith) p)

-- no byte of xs is that of a wildcard or a backslash
abbrev pub IsPlain : List ℕ → Type 0
IsPlain xs = IsFree (is_byte3 37 95 92) xs

IsPlain-right : (xs ys : List ℕ) → IsPlain (xs ++ ys) → IsPlain ys
IsPlain-right = IsFree-right (is_byte3 37 95 92)

-- a character whose byte is plain stands for itself
sign_cases : (c : ℕ) → (c ≡ 37) ⊎ ((c ≡ 95) ⊎ ((c ≡ 92) ⊎ ((rest : Bool → List Item) → items_from (sign_of c) c rest ≡ Char c ∷ rest false)))
sign_cases c =
    ⊎_elim (λ e. inl (eqb-true c 37 e))
    (λ (no : (c == 37) ≡ false). ⊎_elim (λ e. inr (inl (eqb-true c 95 e)))
    (λ (no' : (c == 95) ≡ false). ⊎_elim (λ e. inr (inr (inl (eqb-true c 92 e))))
    (λ (no'' : (c == 92) ≡ false). inr (inr (inr (λ rest. rw (no, no', no'') refl))))
    (cases_Bool (c == 92)))
    (cases_Bool (c == 95)))
    (cases_Bool (c == 37))

-- a character that is no wildcard and no backslash is read as itself
pub items-letter : (c : ℕ) (cs : List ℕ) → ¬ ((c ≡ 37) ⊎ (c ≡ 95)) → ¬ (c ≡ 92) → items (c ∷ cs) ≡ Char c ∷ items cs
items-letter c cs wild back =
    ⊎_elim (λ e. absurd (wild (inl e)))
    (λ o. ⊎_elim (λ e. absurd (wild (inr e)))
    (λ o'. ⊎_elim (λ e. absurd (back e))
    (λ own. own (items_after cs))
    o')
    o)
    (sign_cases c)

special : (c d : ℕ) (xs : List ℕ) → IsPlain (encode_utf8 c ++ xs) → c ≡ d → d < 128 → is_byte3 37 95 92 d ≡ true → ⊥
special c d xs plain e l t =
    let byte : encode_utf8 c ++ xs ≡ d ∷ xs = ap (λ l. l ++ xs) (ap encode_utf8 e ∙ encode_ascii d l) in
    subst IsPlain byte plain 0 (omega arith) t

plain_char : (c : ℕ) (xs : List ℕ) → IsPlain (encode_utf8 c ++ xs) → (rest : Bool → List Item) → items_from (sign_of c) c rest ≡ Char c ∷ rest false
plain_char c xs plain rest =
    ⊎_elim (λ e. absurd (special c 37 xs plain e (omega arith) refl))
    (λ o. ⊎_elim (λ e. absurd (special c 95 xs plain e (omega arith) refl))
    (λ o'. ⊎_elim (λ e. absurd (special c 92 xs plain e (omega arith) refl))
    (λ own. own rest)
    o')
    o)
    (sign_cases c)

and-left : (a b : Bool) → (a && b) ≡ true → a ≡ true
and-left true b h = refl
and-left false b h = cc

and-right : (a b : Bool) → (a && b) ≡ true → b ≡ true
and-right true b h = h
and-right false b h = cc

-- what is matched begins with the plain characters before the others
plain_match : (ns ms ds : List ℕ) → IsPlain (encode_utf8_all ns) → like (items (ns ++ ms)) ds ≡ true → (es : List ℕ) × (ds ≡ ns ++ es)
plain_match [] ms ds plain h = (ds, refl)
plain_match (c ∷ ns) ms [] plain h =
    let is = plain_char c (encode_utf8_all ns) plain (items_after (ns ++ ms)) in
    let no : false ≡ true = ap (λ js. like js []) (sym is) ∙ h in
    cc
plain_match (c ∷ ns) ms (d ∷ ds) plain h =
    let is = plain_char c (encode_utf8_all ns) plain (items_after (ns ++ ms)) in
    let m : ((c == d) && like (items (ns ++ ms)) ds) ≡ true = ap (λ js. like js (d ∷ ds)) (sym is) ∙ h in
    let w = plain_match ns ms ds (IsPlain-right (encode_utf8 c) (encode_utf8_all ns) plain) (and-right (c == d) (like (items (ns ++ ms)) ds) m) in
    let e : c ≡ d = eqb-true c d (and-left (c == d) (like (items (ns ++ ms)) ds) m) in
    let f : ds ≡ ns ++ w.0 = w.1 in
    (w.0, cc)

pub plain_beginning : (bs : List ℕ) (n : ℕ) → IsUtf8 bs → IsCharBoundary bs n → IsPlain (take n bs)
    → (ds : List ℕ) → like (items (chars bs)) ds ≡ true → OccursAt (encode_utf8_all ds) (take n bs) 0
plain_beginning bs n u b plain ds h =
    let run = take n bs in
    let is = IsUtf8-take bs n u b in
    let bytes : encode_utf8_all (chars run) ≡ run = encodes-chars run is in
    let m = plain_match (chars run) (chars (drop n bs)) ds (subst IsPlain (sym bytes) plain) (ap (λ cs. like (items cs) ds) (sym (parted bs n u b)) ∙ h) in
    let front : encode_utf8_all ds ≡ run ++ encode_utf8_all m.0 = ap encode_utf8_all m.1 ∙ encodes-append (chars run) m.0 ∙ ap (λ xs. xs ++ encode_utf8_all m.0) bytes in
    subst (λ xs. OccursAt xs run 0) (sym front) (OccursAt-front run (encode_utf8_all m.0))

some_end-folded : (test : List ℕ → Bool) (b : Bool) (cs : List ℕ) → some_end test (folded b cs) ≡ some_end (λ ds. test (folded b ds)) cs
some_end-folded test true [] = refl
some_end-folded test true (c ∷ cs) = ap (λ x. test (folded true (c ∷ cs)) || x) (some_end-folded test true cs)
some_end-folded test false cs = refl

-- a pattern's beginning is at every place where it may match
pub from_first_run : (is : List Item) (b : Bool) (bs run rest : List ℕ) → IsFromFirst (OccursAt bs run) bs rest
    → ((ds : List ℕ) → like is (folded b ds) ≡ true → OccursAt (encode_utf8_all ds) run 0)
    → (some_end (like is) (folded b (chars rest)) ≡ some_end (like is) (folded b (chars bs))) × (length (folded b (chars rest)) ≤ length (folded b (chars bs)))
from_first_run is b bs run rest f begins =
    let w = from_first (λ ds. like is (folded b ds)) (OccursAt bs run) bs rest f (λ ws ds e m. OccursAt-left bs ws ds run f.text e (begins ds m)) in
    let shorter = w.1 in (
      some_end-folded (like is) b (chars rest) ∙ w.0 ∙ sym (some_end-folded (like is) b (chars bs)),
      omega (arith, length-folded b (chars rest), length-folded b (chars bs)),
    )

-- a character that reads as an ASCII letter is that letter in one case or the other
in_either_case : (a d : ℕ) → a ≡ to_ascii_lowercase d → a < 128 → (d < 128) × (is_byte2 a (to_ascii_uppercase a) d ≡ true)
in_either_case a d e l = (grind (arith, nat_tests), grind (arith, nat_tests))

as_it_is : (a b d : ℕ) → a ≡ d → is_byte2 a b d ≡ true
as_it_is a b d e = ap (λ x. x || d == b) (eq-eqb d a (sym e))

one_letter : (a d : ℕ) (ds : List ℕ) → d < 128 → is_byte2 a (to_ascii_uppercase a) d ≡ true → Passes (is_byte2 a (to_ascii_uppercase a)) (encode_utf8_all (d ∷ ds)) 0
one_letter a d ds l t =
    let byte : encode_utf8_all (d ∷ ds) ≡ d ∷ encode_utf8_all ds = ap (λ l. l ++ encode_utf8_all ds) (encode_ascii d l) in
    ap (λ xs. is_byte2 a (to_ascii_uppercase a) (slice_index xs 0)) byte ∙ t

letter_match : (b : Bool) (a : ℕ) (js : List Item) (ds : List ℕ) → a < 128 → like (Char a ∷ js) (folded b ds) ≡ true → Passes (is_byte2 a (to_ascii_uppercase a)) (encode_utf8_all ds) 0
letter_match true a js [] l h = cc
letter_match true a js (d ∷ ds) l h =
    let w = in_either_case a d (eqb-true a (to_ascii_lowercase d) (and-left _ _ h)) l in
    one_letter a d ds w.0 w.1
letter_match false a js [] l h = cc
letter_match false a js (d ∷ ds) l h =
    let e = eqb-true a d (and-left _ _ h) in
    one_letter a d ds (omega arith) (as_it_is a (to_ascii_uppercase a) d e)

Passes-left : (test : ℕ → Bool) (bs ws ds : List ℕ) → IsUtf8 bs → chars bs ≡ ws ++ ds → Passes test (encode_utf8_all ds) 0 → Passes test bs (length (encode_utf8_all ws))
Passes-left test bs ws ds u e p =
    let split = bytes_split bs ws ds u e in
    let size = length (encode_utf8_all ws) in
    let at : slice_index bs size ≡ slice_index (encode_utf8_all ds) 0 = ap (λ xs. slice_index xs size) split ∙ ap (slice_index (encode_utf8_all ws ++ encode_utf8_all ds)) (omega arith) ∙ get_or-append-add (encode_utf8_all ws) (encode_utf8_all ds) 0 0 in
    ap test at ∙ p

-- one of the bytes of a pattern's first letter, in either case, is at every place where it may match
pub from_first_letter : (b : Bool) (a : ℕ) (is js : List Item) (bs rest : List ℕ) → is ≡ Char a ∷ js → a < 128
    → IsFromFirst (Passes (is_byte2 a (to_ascii_uppercase a)) bs) bs rest
    → (some_end (like is) (folded b (chars rest)) ≡ some_end (like is) (folded b (chars bs))) × (length (folded b (chars rest)) ≤ length (folded b (chars bs)))
from_first_letter b a is js bs rest e l f =
    let byte = is_byte2 a (to_ascii_uppercase a) in
    let w = from_first (λ ds. like is (folded b ds)) (Passes byte bs) bs rest f
    (λ ws ds split m. Passes-left byte bs ws ds f.text split (letter_match b a js ds l (ap (λ xs. like xs (folded b ds)) (sym e) ∙ m))) in
    let shorter = w.1 in (
      some_end-folded (like is) b (chars rest) ∙ w.0 ∙ sym (some_end-folded (like is) b (chars bs)),
      omega (arith, length-folded b (chars rest), length-folded b (chars bs)),
    )

all_end : (cs : List ℕ) → some_end (like []) cs ≡ true
all_end [] = refl
all_end (c ∷ cs) = all_end cs

-- no items match at the end of any text
pub some_end-no_item : (cs ds : List ℕ) → some_end (like []) cs ≡ some_end (like []) ds
some_end-no_item cs ds = all_end cs ∙ sym (all_end ds)

-- a byte of a wildcard or a backslash is ASCII
pub special_byte : (x : ℕ) → is_byte3 37 95 92 x ≡ true → x < 128
special_byte x t = grind (arith, nat_tests)

front_index : (bs front : List ℕ) (m k : ℕ) → front ≡ take m bs → k < length front → slice_index front k ≡ slice_index bs k
front_index bs front m k e l =
    let size = ap length e ∙ length-take m bs in
    let inside : k < m = omega arith in
    ap (λ xs. slice_index xs k) e ∙ get_or-take m bs k 0 inside

-- the first byte among the first m that passes a test of ASCII bytes: a character begins there, and none before passes
pub free_before : (test : ℕ → Bool) (bs : List ℕ) (m n : ℕ) → ((x : ℕ) → test x ≡ true → x < 128) → IsFirstByte test (take m bs) (Some n)
    → IsCharBoundary bs n × IsFree test (take n bs)
free_before test bs m n ascii h =
    let high = h.0.high in
    let size = length-take m bs in
    let same = front_index bs (take m bs) m n refl high in
    let low = ascii (slice_index (take m bs) n) h.1 in (
      IsCharBoundary-before_ascii bs n (omega arith) (omega arith),
      λ k l p.
          let short = length-take n bs in
          let within : k < n = omega arith in
          h.0.before k (omega arith) within
          (ap test (front_index bs (take m bs) m k refl (omega arith) ∙ sym (get_or-take n bs k 0 within)) ∙ p),
    )

-- with none among all the bytes
pub all_free : (test : ℕ → Bool) (bs : List ℕ) (m : ℕ) → length bs ≤ m → IsFirstByte test (take m bs) None → IsFree test (take (length bs) bs)
all_free test bs m le h k l p =
    let whole : take m bs ≡ bs = take_all m bs le in
    let own : take (length bs) bs ≡ bs = take_all (length bs) bs (omega arith) in
    h k (omega arith) (omega (arith, ap length whole, ap length own)) (ap (λ xs. test (slice_index xs k)) (whole ∙ sym own) ∙ p)

pub special_or_letter : (x : ℕ) → is_sign_or_letter x ≡ true → x < 128
special_or_letter x t = grind (arith, nat_tests)

or-none : (a b : Bool) → ((a || b) ≡ true → ⊥) → (a ≡ true → ⊥) × (b ≡ true → ⊥)
or-none true b h = absurd (h refl)
or-none false b h = (λ e. cc, h)

or-left : (a b : Bool) → b ≡ true → (a || b) ≡ true
or-left true b h = refl
or-left false b h = h

not_other : (x y : ℕ) → (not (x == y) ≡ true → ⊥) → x ≡ y
not_other x y h = ⊎_elim (λ t. eqb-true x y t) (λ f. absurd (h (ap not f))) (cases_Bool (x == y))

low_same : (c : ℕ) → to_ascii_lowercase c ≡ to_ascii_uppercase c → to_ascii_lowercase c ≡ c
low_same c even = grind (arith, nat_tests)

low_own : (c d : ℕ) → to_ascii_lowercase c ≡ to_ascii_uppercase c → to_ascii_lowercase d ≡ c → d ≡ c
low_own c d even e = grind (arith, nat_tests)

high_same : (c : ℕ) → 128 ≤ c → to_ascii_lowercase c ≡ to_ascii_uppercase c
high_same c le = grind (arith, nat_tests)

-- a character that is no ASCII letter is lowered to itself, and no other one to it
same_case : (c : ℕ) → (not (to_ascii_lowercase c == to_ascii_uppercase c) ≡ true → ⊥) → (to_ascii_lowercase c ≡ c) × ((d : ℕ) → to_ascii_lowercase d ≡ c → d ≡ c)
same_case c h =
    let even : to_ascii_lowercase c ≡ to_ascii_uppercase c = not_other _ _ h in
    (low_same c even, λ d e. low_own c d even e)

caseless_char : (c : ℕ) (xs : List ℕ) → IsFree is_sign_or_letter (encode_utf8 c ++ xs) → (to_ascii_lowercase c ≡ c) × ((d : ℕ) → to_ascii_lowercase d ≡ c → d ≡ c)
caseless_char c xs free =
    same_case c
    (λ t. ⊎_elim
    (λ (low : c < 128).
    let byte : encode_utf8 c ++ xs ≡ c ∷ xs = ap (λ (l : List ℕ). l ++ xs) (encode_ascii c low) in
    subst (IsFree is_sign_or_letter) byte free 0 (omega arith) (or-left (is_byte3 37 95 92 c) _ t))
    (λ (high : 128 ≤ c). false≢true (sym (ap not (eq-eqb (to_ascii_lowercase c) (to_ascii_uppercase c) (high_same c high))) ∙ t))
    (cases_lt c 128))

-- such characters stay as they are where case is ignored
folded-free : (b : Bool) (ns ms : List ℕ) → IsFree is_sign_or_letter (encode_utf8_all ns) → folded b (ns ++ ms) ≡ ns ++ folded b ms
folded-free false ns ms free = refl
folded-free true [] ms free = refl
folded-free true (c ∷ ns) ms free =
    let own = (caseless_char c (encode_utf8_all ns) free).0 in
    let more = folded-free true ns ms (IsFree-right is_sign_or_letter (encode_utf8 c) (encode_utf8_all ns) free) in
    cc

folded-begins : (b : Bool) (ns ds es : List ℕ) → IsFree is_sign_or_letter (encode_utf8_all ns) → folded b ds ≡ ns ++ es → (fs : List ℕ) × (ds ≡ ns ++ fs)
folded-begins false ns ds es free e = (es, e)
folded-begins true [] ds es free e = (ds, refl)
folded-begins true (c ∷ ns) [] es free e = cc
folded-begins true (c ∷ ns) (d ∷ ds) es free e =
    let low : to_ascii_lowercase d ≡ c = cc in
    let own : d ≡ c = (caseless_char c (encode_utf8_all ns) free).1 d low in
    let after : folded true ds ≡ ns ++ es = cc in
    let more = folded-begins true ns ds es (IsFree-right is_sign_or_letter (encode_utf8 c) (encode_utf8_all ns) free) after in
    let f : ds ≡ ns ++ more.0 = more.1 in
    (more.0, cc)

free_plain : (xs : List ℕ) → IsFree is_sign_or_letter xs → IsPlain xs
free_plain xs free k l p = (or-none _ _ (free k l)).0 p

pub caseless_beginning : (bs : List ℕ) (n : ℕ) → IsUtf8 bs → IsCharBoundary bs n → IsFree is_sign_or_letter (take n bs)
    → (b d : Bool) (ds : List ℕ) → like (items (folded b (chars bs))) (folded d ds) ≡ true → OccursAt (encode_utf8_all ds) (take n bs) 0
caseless_beginning bs n u at free b d ds h =
    let run = take n bs in
    let is = IsUtf8-take bs n u at in
    let bytes : encode_utf8_all (chars run) ≡ run = encodes-chars run is in
    let own : IsFree is_sign_or_letter (encode_utf8_all (chars run)) = subst (IsFree is_sign_or_letter) (sym bytes) free in
    let split : folded b (chars bs) ≡ chars run ++ folded b (chars (drop n bs)) = ap (folded b) (parted bs n u at) ∙ folded-free b (chars run) (chars (drop n bs)) own in
    let m = plain_match (chars run) (folded b (chars (drop n bs))) (folded d ds) (free_plain _ own) (ap (λ cs. like (items cs) (folded d ds)) (sym split) ∙ h) in
    let w = folded-begins d (chars run) ds m.0 own m.1 in
    let front : encode_utf8_all ds ≡ run ++ encode_utf8_all w.0 = ap encode_utf8_all w.1 ∙ encodes-append (chars run) w.0 ∙ ap (λ xs. xs ++ encode_utf8_all w.0) bytes in
    subst (λ xs. OccursAt xs run 0) (sym front) (OccursAt-front run (encode_utf8_all w.0))
