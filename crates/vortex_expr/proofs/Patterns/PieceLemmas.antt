-- What a pattern's first piece says of the ends of a text at which the pattern may match.
use Rattle.std.proofs.Common.{◌≡◌, ℕ, zero, suc, ◌+◌, ◌-◌, ◌*◌, ◌<◌, ◌≤◌, Bool, true, false, ◌&&◌, ◌||◌, List, [], ◌∷◌, length, drop, slice_index, refl, sym, ap, ◌∙◌, arith, length-drop, if◌then◌else◌}
use Rattle.std.proofs.lemmas.List.{length-map}
use Rattle.std.proofs.lemmas.Bool.{eqb-true}
use Rattle.std.specs.Str.{chars, chars_after, continuation_len, lead_bits}
use Rattle.std.specs.Char.{to_ascii_lowercase}
use Rattle.vortex_expr.specs.declared.like.Characters.{Characters}
use Rattle.vortex_expr.specs.declared.like.substring.Letters.{Letters}
use Rattle.vortex_expr.specs.declared.like.Item.{Item}
use Rattle.vortex_expr.specs.declared.like.Item.TheVariants.{Char, AnyChar, AnyRun}
use Rattle.vortex_expr.specs.Patterns.Like.{items, like, some_end, folded}
use Rattle.vortex_expr.specs.Patterns.LikeSearch.{characters}
use Rattle.vortex_expr.specs.Patterns.Prefix.{literal_prefix}
use Rattle.vortex_expr.specs.Patterns.Substring.{StandsAt, IsPast, letters}
use Rattle.vortex_expr.proofs.Patterns.SubstringLemmas.{drop_sum, StandsAt-in}

and-left : (a b : Bool) → (a && b) ≡ true → a ≡ true
and-left true b h = refl
and-left false b h = cc

and-right : (a b : Bool) → (a && b) ≡ true → b ≡ true
and-right true b h = h
and-right false b h = cc

or-false : (a b : Bool) → (a ≡ true → ⊥) → (a || b) ≡ b
or-false true b h = absurd (h refl)
or-false false b h = refl

not-true : (a : Bool) → (a ≡ true → ⊥) → a ≡ false
not-true true h = absurd (h refl)
not-true false h = refl

-- what an item that is no run matches has a character, and the rest matches what follows it
pub like-char : (d : ℕ) (is : List Item) (ds : List ℕ) → like (Char d ∷ is) ds ≡ true → (0 < length ds) × (like is (drop 1 ds) ≡ true)
like-char d is [] h = cc
like-char d is (c ∷ cs) h = (omega arith, and-right _ _ h)

pub like-any_char : (is : List Item) (ds : List ℕ) → like (AnyChar ∷ is) ds ≡ true → (0 < length ds) × (like is (drop 1 ds) ≡ true)
like-any_char is [] h = cc
like-any_char is (c ∷ cs) h = (omega arith, h)

-- an item on, in a text of which `count` characters were read
pub read_more : (is : List Item) (count : ℕ) (ds : List ℕ) → count ≤ length ds → (0 < length (drop count ds)) × (like is (drop 1 (drop count ds)) ≡ true)
    → (count + 1 ≤ length ds) × (like is (drop (count + 1) ds) ≡ true)
read_more is count ds within h =
    let some = h.0 in
    let left = length-drop count ds in
    (omega arith, ap (like is) (sym (drop_sum ds count 1)) ∙ h.1)

-- an end at which the test fails is passed over
pub some_end-skip : (test : List ℕ → Bool) (c : ℕ) (cs : List ℕ) → (test (c ∷ cs) ≡ true → ⊥) → some_end test cs ≡ some_end test (c ∷ cs)
some_end-skip test c cs h = sym (or-false (test (c ∷ cs)) (some_end test cs) h)

-- no end passes a test that no end passes
pub some_end-none : (test : List ℕ → Bool) (cs : List ℕ) → ((ds : List ℕ) → length ds ≤ length cs → test ds ≡ true → ⊥) → some_end test cs ≡ false
some_end-none test [] h = not-true (test []) (h [] (omega arith))
some_end-none test (c ∷ cs) h = sym (some_end-skip test c cs (h (c ∷ cs) (omega arith))) ∙ some_end-none test cs (λ ds le. h ds (omega arith))

-- ends at which the test fails are passed over
pub some_end-drop : (test : List ℕ → Bool) (cs : List ℕ) (place : ℕ) → ((k : ℕ) → k < place → k ≤ length cs → test (drop k cs) ≡ true → ⊥) → some_end test (drop place cs) ≡ some_end test cs
some_end-drop test cs zero h = refl
some_end-drop test [] (suc place) h = refl
some_end-drop test (c ∷ cs) (suc place) h =
    some_end-drop test cs place (λ k l le. h (suc k) (omega arith) (omega arith)) ∙ some_end-skip test c cs (h 0 (omega arith) (omega arith))

letter_at : (d c : ℕ) (is : List Item) (cs : List ℕ) → c ≡ d → ((j : ℕ) → j < length (literal_prefix is) → slice_index cs (0 + j) ≡ slice_index (literal_prefix is) j)
    → (j : ℕ) → j < length (literal_prefix (Char d ∷ is)) → slice_index (c ∷ cs) (0 + j) ≡ slice_index (literal_prefix (Char d ∷ is)) j
letter_at d c is cs e h zero l = e
letter_at d c is cs e h (suc j) l =
    let z : 0 + suc j ≡ suc (0 + j) = omega arith in
    ap (slice_index (c ∷ cs)) z ∙ h j (omega arith)

-- a match begins with the letters before the first wildcard
pub like-letters : (is : List Item) (cs : List ℕ) → like is cs ≡ true → StandsAt (literal_prefix is) cs 0
like-letters [] cs h = record { fits = omega arith; reads = λ j l. absurd (omega arith) }
like-letters (AnyChar ∷ is) cs h = record { fits = omega arith; reads = λ j l. absurd (omega arith) }
like-letters (AnyRun ∷ is) cs h = record { fits = omega arith; reads = λ j l. absurd (omega arith) }
like-letters (Char d ∷ is) [] h = cc
like-letters (Char d ∷ is) (c ∷ cs) h =
    let s : StandsAt (literal_prefix is) cs 0 = like-letters is cs (and-right _ _ h) in
    let f : 0 + length (literal_prefix is) ≤ length cs = s.fits in
    record { fits = omega arith; reads = λ j l. letter_at d c is cs (sym (eqb-true d c (and-left _ _ h))) s.reads j l }

-- a place at which the letters do not stand has no match
some_end-to : (is : List Item) (cs : List ℕ) (place : ℕ) → ((k : ℕ) → k < place → ¬ StandsAt (literal_prefix is) cs k) → some_end (like is) (drop place cs) ≡ some_end (like is) cs
some_end-to is cs place none =
    some_end-drop (like is) cs place (λ k l le m. none k l (StandsAt-in (literal_prefix is) cs k le (like-letters is (drop k cs) m)))

-- the first place where the letters stand leaves every match
pub some_end-past : (is : List Item) (cs rest : List ℕ) → IsPast (literal_prefix is) cs rest → (some_end (like is) rest ≡ some_end (like is) cs) × (length rest ≤ length cs)
some_end-past is cs rest p = (
  ap (some_end (like is)) p.is ∙ some_end-to is cs p.place p.none,
  omega (arith, length-drop p.place cs, ap length p.is),
)

pub length-chars_after : (n c : ℕ) (bs : List ℕ) → length (chars_after n c bs) ≤ length bs + 1
length-chars_after zero c [] = omega arith
length-chars_after zero c (b ∷ bs) = let h = length-chars_after (continuation_len b) (lead_bits b) bs in omega arith
length-chars_after (suc n) c [] = omega arith
length-chars_after (suc n) c (b ∷ bs) = let h = length-chars_after n (c * 64 + (b - 128)) bs in omega arith

pub length-chars : (bs : List ℕ) → length (chars bs) ≤ length bs
unfolding chars
length-chars [] = omega arith
length-chars (b ∷ bs) = let h = length-chars_after (continuation_len b) (lead_bits b) bs in omega arith

pub length-folded : (b : Bool) (cs : List ℕ) → length (folded b cs) ≡ length cs
length-folded true cs = length-map cs to_ascii_lowercase
length-folded false cs = refl

-- a text has no more characters than bytes
pub length-characters : (c : Characters) → length (characters c) ≤ length c.text.now
length-characters c = omega (arith, length-folded c.ignore_case (chars c.text.now), length-chars c.text.now)

-- the letters of a text are its characters
pub letters-of_text : (l : Letters) → l.of_pattern ≡ false → letters l ≡ characters l.rest
letters-of_text l e = ap (λ b. if b then literal_prefix (items (characters l.rest)) else characters l.rest) e
