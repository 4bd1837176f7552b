-- What a pattern of LIKE says of a text by its literal characters, which stand at the text's front, at its end or within it.
use Rattle.std.proofs.Common.{Bor, ◌≡◌, ◌≢◌, ◌↔◌, ℕ, ◌+◌, ◌-◌, ◌<◌, Bool, true, false, ◌&&◌, ◌||◌, not, List, [], ◌∷◌, ◌++◌, Option, Some, None, length, take, drop, get_or, map, refl, sym, ap, ap₂, subst, ◌∙◌, arith, append-nil, length-append, true≢false, if◌then◌else◌}
use Rattle.std.specs.Prelude.{◌==◌, encode_utf8_all, option_map, slice_get}
use Rattle.std.specs.Bool.{MatchBool}
use Rattle.std.specs.Char.{char_set_contains}
use Rattle.std.specs.Str.{chars, IsCharBoundary, IsUtf8, NoCharPasses, NonePass}
use Rattle.std.specs.Str.Iter.{HasSubslice}
use Rattle.std.specs.Str.Pattern.{FindsTextSuffix, HasSuffixMatch}
use Rattle.std.proofs.lemmas.Bool.{and_parts, eq-eqb, eqb-true}
use Rattle.std.proofs.lemmas.List.{get_or-append-add, take-append-drop}
use Rattle.std.proofs.lemmas.Str.{IsCharBoundary-start, IsUtf8-take, chars-append, chars-nil, chars_from_encodes, chars_past_char, encode_ascii, encodes-append, encodes-chars, length-le-encodes}
use Rattle.vortex_base.specs.Data.VarBinArray.{blob_at}
use Rattle.vortex_base.specs.declared.scalar_value.ScalarValue.{ScalarValue}
use Rattle.vortex_base.specs.declared.scalar_value.ScalarValue.TheVariants as value
use Rattle.vortex_expr.specs.Patterns.Like.{Backslash, Percent, Plain, Underscore, items, items_after, items_from, like, like_text, sign_of, some_end}
use Rattle.vortex_expr.specs.declared.like.Item.{Item}
use Rattle.vortex_expr.specs.declared.like.Item.TheVariants.{Char, AnyRun}
use Rattle.vortex_expr.specs.declared.like.LikeOptions.{LikeOptions}
use Rattle.vortex_prune.proofs.Scanning.ColumnLemmas.{strings_at}
use Rattle.vortex_prune.proofs.ZoneMaps.ZoneMarks.{marked-same}
use Rattle.vortex_prune.specs.Scanning.Leaves.{passes, passes_at}
use Rattle.vortex_prune.specs.Scanning.Likes.{ends_in, is_liked, is_liked_at, letters, passes_items, passes_items_at, within}
use Rattle.vortex_prune.specs.Scanning.Marks.{marked}
use Rattle.vortex_prune.specs.declared.scan.leaf.Test.{Test}
use Rattle.vortex_prune.specs.declared.scan.leaf.Test.TheVariants.{Like}

refuted : (b : Bool) → (b ≡ true → ⊥) → b ≡ false
refuted true f = absurd (f refl)
refuted false f = refl

or-right : (a b : Bool) → b ≡ true → (a || b) ≡ true
or-right true b h = refl
or-right false b h = h

or-cases : (a b : Bool) (P : Type 0) → (a || b) ≡ true → (a ≡ true → P) → (b ≡ true → P) → P
or-cases true b P h f g = f refl
or-cases false b P h f g = g h

-- ---- literal characters and further items

-- they match what begins with these characters and goes on so
letters_then : (ns : List ℕ) (is : List Item) (es : List ℕ) → like (letters ns ++ is) (ns ++ es) ≡ like is es
letters_then [] is es = refl
letters_then (n ∷ ns) is es = ap (λ b. b && like (letters ns ++ is) (ns ++ es)) (eq-eqb n n refl) ∙ letters_then ns is es

-- and nothing else
letters_first : (ns : List ℕ) (is : List Item) (cs : List ℕ) → like (letters ns ++ is) cs ≡ true → (es : List ℕ) × (cs ≡ ns ++ es)
letters_first [] is cs h = (cs, refl)
letters_first (n ∷ ns) is [] h = cc
letters_first (n ∷ ns) is (c ∷ cs) h =
    let k = and_parts (n == c) (like (letters ns ++ is) cs) h in
    let p = letters_first ns is cs k.1 in
    (p.0, ap₂ ◌∷◌ (sym (eqb-true n c k.0)) p.1)

letters_alone : (ns : List ℕ) → like (letters ns) ns ≡ true
letters_alone [] = refl
letters_alone (n ∷ ns) = ap (λ b. b && like (letters ns) ns) (eq-eqb n n refl) ∙ letters_alone ns

letters_are : (ns cs : List ℕ) → like (letters ns) cs ≡ true → cs ≡ ns
letters_are [] [] h = refl
letters_are [] (c ∷ cs) h = cc
letters_are (n ∷ ns) [] h = cc
letters_are (n ∷ ns) (c ∷ cs) h =
    let k = and_parts (n == c) (like (letters ns) cs) h in
    ap₂ ◌∷◌ (sym (eqb-true n c k.0)) (letters_are ns cs k.1)

-- ---- at some end

any_run : (cs : List ℕ) → some_end (like []) cs ≡ true
any_run [] = refl
any_run (c ∷ cs) = any_run cs

first_end : (test : List ℕ → Bool) (cs : List ℕ) → test cs ≡ true → some_end test cs ≡ true
first_end test [] h = h
first_end test (c ∷ cs) h = ap (λ b. b || some_end test cs) h

end_behind : (test : List ℕ → Bool) (ws es : List ℕ) → test es ≡ true → some_end test (ws ++ es) ≡ true
end_behind test [] es h = first_end test es h
end_behind test (w ∷ ws) es h = or-right (test (w ∷ (ws ++ es))) (some_end test (ws ++ es)) (end_behind test ws es h)

-- where a test passes at some end, what stands before that and the end itself
end_where : (test : List ℕ → Bool) (cs : List ℕ) → some_end test cs ≡ true → (ws : List ℕ) × (es : List ℕ) × (cs ≡ ws ++ es) × (test es ≡ true)
end_where test [] h = ([], [], refl, h)
end_where test (c ∷ cs) h =
    or-cases (test (c ∷ cs)) (some_end test cs) ((ws : List ℕ) × (es : List ℕ) × (c ∷ cs ≡ ws ++ es) × (test es ≡ true)) h
    (λ k. ([], c ∷ cs, refl, k))
    (λ k. let p = end_where test cs k in (c ∷ p.0, p.1, ap (λ l. c ∷ l) p.2, p.3))

-- ---- texts by their bytes

split_chars : (bs xs ys : List ℕ) → bs ≡ xs ++ ys → IsUtf8 xs → chars bs ≡ chars xs ++ chars ys
split_chars bs xs ys e u = ap chars e ∙ chars-append xs ys u

joined_bytes : (bs cs ds : List ℕ) → IsUtf8 bs → chars bs ≡ cs ++ ds → bs ≡ encode_utf8_all cs ++ encode_utf8_all ds
joined_bytes bs cs ds u e = sym (encodes-chars bs u) ∙ ap encode_utf8_all e ∙ encodes-append cs ds

-- no characters are left exactly of the empty text
pub none_left : (bs : List ℕ) → IsUtf8 bs → (length bs == 0) ≡ like [] (chars bs)
none_left bs u = by_chars (chars bs) (encodes-chars bs u)
  where
    by_chars : (cs : List ℕ) → encode_utf8_all cs ≡ bs → (length bs == 0) ≡ like [] cs
    by_chars [] e = ap (λ (l : List ℕ). length l == 0) (sym e)
    by_chars (c ∷ cs) e =
        refuted (length bs == 0)
        (λ h.
        let none : length bs ≡ 0 = eqb-true (length bs) 0 h in
        let long = length-le-encodes (c ∷ cs) in
        let same = ap length e in
        omega arith)

-- behind a front
pub behind_front : (front text rest : List ℕ) (is : List Item) → IsUtf8 front → text ≡ front ++ rest → like is (chars rest) ≡ like (letters (chars front) ++ is) (chars text)
behind_front front text rest is u e = sym (ap (like (letters (chars front) ++ is)) (split_chars text front rest e u) ∙ letters_then (chars front) is (chars rest))

-- with another front
pub with_no_front : (front text : List ℕ) (is : List Item) → IsUtf8 front → IsUtf8 text → ((rest : List ℕ) → text ≢ front ++ rest) → false ≡ like (letters (chars front) ++ is) (chars text)
with_no_front front text is u v none =
    sym (refuted (like (letters (chars front) ++ is) (chars text))
    (λ h.
    let p = letters_first (chars front) is (chars text) h in
    none (encode_utf8_all p.0) (joined_bytes text (chars front) p.0 v p.1 ∙ ap (λ (l : List ℕ). l ++ encode_utf8_all p.0) (encodes-chars front u))))

-- at the end
pub ends_told : (r : Bool) (end text : List ℕ) → IsUtf8 end → IsUtf8 text → MatchBool r (HasSuffixMatch (FindsTextSuffix end) text) (FindsTextSuffix end text None) → r ≡ like (ends_in (chars end)) (chars text)
ends_told true end text u v h =
    let k = h.0 in
    let front = take (length text - k) text in
    let split : text ≡ front ++ end = h.1.1 in
    sym (ap (some_end (like (letters (chars end)))) (split_chars text front end split (IsUtf8-take text (length text - k) v h.3)) ∙ end_behind (like (letters (chars end))) (chars front) (chars end) (letters_alone (chars end)))
ends_told false end text u v h =
    sym (refuted (like (ends_in (chars end)) (chars text))
    (λ m.
    let p = end_where (like (letters (chars end))) (chars text) m in
    let whole : chars text ≡ p.0 ++ chars end = p.2 ∙ ap (λ (l : List ℕ). p.0 ++ l) (letters_are (chars end) p.1 p.3) in
    h (encode_utf8_all p.0) (joined_bytes text p.0 (chars end) v whole ∙ ap (λ (l : List ℕ). encode_utf8_all p.0 ++ l) (encodes-chars end u))))

-- ---- within

-- where a text stands in another, what is before it is a text too
before_part : (bs xs part ys : List ℕ) → IsUtf8 bs → IsUtf8 part → 0 < length part → bs ≡ xs ++ (part ++ ys) → IsUtf8 (take (length xs) bs)
before_part bs xs [] ys u v some e = absurd (omega arith)
before_part bs xs (x ∷ part) ys u v some e =
    let size = ap length e ∙ length-append xs ((x ∷ part) ++ ys) in
    let place : length xs ≡ length xs + 0 = omega arith in
    let at : get_or bs (length xs) 0 ≡ x = ap (λ (l : List ℕ). get_or l (length xs) 0) e ∙ ap (λ (i : ℕ). get_or (xs ++ ((x ∷ part) ++ ys)) i 0) place ∙ get_or-append-add xs ((x ∷ part) ++ ys) 0 0 in
    let begins = IsCharBoundary-start (x ∷ part) v in
    IsUtf8-take bs (length xs) u (omega arith, λ l high. let lead = begins.1 some (omega arith) in omega arith)

part_like : (text front part rest : List ℕ) → chars text ≡ chars front ++ (chars part ++ chars rest) → true ≡ like (within (chars part)) (chars text)
part_like text front part rest e =
    let test = like (letters (chars part) ++ (AnyRun ∷ [])) in
    sym (ap (some_end test) e ∙ end_behind test (chars front) (chars part ++ chars rest) (letters_then (chars part) (AnyRun ∷ []) (chars rest) ∙ any_run (chars rest)))

part_within : (text xs part ys : List ℕ) → IsUtf8 text → IsUtf8 part → text ≡ xs ++ (part ++ ys) → true ≡ like (within (chars part)) (chars text)
part_within text xs [] ys u v e = part_like text [] [] text (ap (λ (l : List ℕ). l ++ (l ++ chars text)) (sym chars-nil))
part_within text xs (x ∷ part) ys u v e =
    let before = before_part text xs (x ∷ part) ys u v (omega arith) e in
    let own : take (length xs) text ≡ xs = ap (take (length xs)) e ∙ take-append xs ((x ∷ part) ++ ys) in
    let front : IsUtf8 xs = subst IsUtf8 own before in
    part_like text xs (x ∷ part) ys (split_chars text xs ((x ∷ part) ++ ys) e front ∙ ap (λ l. chars xs ++ l) (chars-append (x ∷ part) ys v))
  where
    take-append : (as' bs : List ℕ) → take (length as') (as' ++ bs) ≡ as'
    take-append [] bs = refl
    take-append (a ∷ as') bs = ap (λ l. a ∷ l) (take-append as' bs)

pub within_told : (r : Bool) (part text : List ℕ) → IsUtf8 part → IsUtf8 text → (r ≡ true) ↔ HasSubslice text part → r ≡ like (within (chars part)) (chars text)
within_told true part text u v h = let p = h.0 refl in part_within text p.0 part p.1 v u p.2
within_told false part text u v h =
    let test = like (letters (chars part) ++ (AnyRun ∷ [])) in
    sym (refuted (like (within (chars part)) (chars text))
    (λ m.
    let p = end_where test (chars text) m in
    let q = letters_first (chars part) (AnyRun ∷ []) p.1 p.3 in
    let whole : chars text ≡ p.0 ++ (chars part ++ q.0) = p.2 ∙ ap (λ (l : List ℕ). p.0 ++ l) q.1 in
    let bytes : text ≡ encode_utf8_all p.0 ++ (part ++ encode_utf8_all q.0) =
    joined_bytes text p.0 (chars part ++ q.0) v whole
    ∙ ap (λ (l : List ℕ). encode_utf8_all p.0 ++ l) (encodes-append (chars part) q.0 ∙ ap (λ (l : List ℕ). l ++ encode_utf8_all q.0) (encodes-chars part u)) in
    true≢false (sym (h.1 (encode_utf8_all p.0, encode_utf8_all q.0, bytes)))))

-- ---- how a pattern reads

-- the wildcards and the backslash
abbrev pub signs : List ℕ
signs = 37 ∷ 95 ∷ 92 ∷ []

plain_sign : (c : ℕ) → char_set_contains signs c ≡ false → sign_of c ≡ Plain
plain_sign c h = by_tests (c == 37) (c == 95) (c == 92) (isn't 37 refl) (isn't 95 refl) (isn't 92 refl)
  where
    isn't : (d : ℕ) → char_set_contains signs d ≡ true → (c == d) ≡ false
    isn't d e = refuted (c == d) (λ t. true≢false (sym e ∙ ap (char_set_contains signs) (sym (eqb-true c d t)) ∙ h))

    by_tests : (p q r : Bool) → p ≡ false → q ≡ false → r ≡ false → (if p then Percent else (if q then Underscore else (if r then Backslash else Plain))) ≡ Plain
    by_tests false false false e f g = refl
    by_tests true q r e f g = cc
    by_tests false true r e f g = cc
    by_tests false false true e f g = cc

plain_items : (ns ms : List ℕ) → NonePass (char_set_contains signs) ns → items (ns ++ ms) ≡ letters ns ++ items ms
plain_items [] ms h = refl
plain_items (n ∷ ns) ms h = ap (λ s. items_from s n (items_after (ns ++ ms))) (plain_sign n h.0) ∙ ap (λ l. Char n ∷ l) (plain_items ns ms h.1)

plain_chars : (bs : List ℕ) → IsUtf8 bs → NoCharPasses (char_set_contains signs) bs → NonePass (char_set_contains signs) (chars bs)
plain_chars bs u h = subst (NonePass (char_set_contains signs)) (chars_from_encodes h.0 bs u h.1) h.2

-- a pattern split where no sign stands before
pub split_items : (bs front rest : List ℕ) (i : ℕ) → IsUtf8 bs → IsCharBoundary bs i → NoCharPasses (char_set_contains signs) (take i bs) → front ≡ take i bs → rest ≡ drop i bs → items (chars bs) ≡ letters (chars front) ++ items (chars rest)
split_items bs front rest i u b h e f =
    let is = IsUtf8-take bs i u b in
    ap items (split_chars bs (take i bs) (drop i bs) (sym (take-append-drop i bs)) is)
    ∙ plain_items (chars (take i bs)) (chars (drop i bs)) (plain_chars (take i bs) is h)
    ∙ ap₂ (λ xs ys. letters (chars xs) ++ items (chars ys)) (sym e) (sym f)

-- and one with no sign
pub whole_items : (bs : List ℕ) → IsUtf8 bs → NoCharPasses (char_set_contains signs) bs → items (chars bs) ≡ letters (chars bs) ++ items (chars [])
whole_items bs u h =
    ap items (sym (append-nil (chars bs)))
    ∙ plain_items (chars bs) [] (plain_chars bs u h)
    ∙ ap (λ (l : List ℕ). letters (chars bs) ++ items l) (sym chars-nil)

-- no items are read of an empty pattern
pub no_items : (bs : List ℕ) → length bs ≡ 0 → items (chars bs) ≡ []
no_items [] e = ap items chars-nil
no_items (b ∷ bs) e = absurd (omega arith)

-- a percent sign is a run
pub run_first : (bs tail : List ℕ) → IsUtf8 bs → bs ≡ 37 ∷ tail → items (chars bs) ≡ AnyRun ∷ items (chars tail)
run_first bs tail u e = ap items (chars_past_char bs tail 37 u (e ∙ sym (ap (λ (l : List ℕ). l ++ tail) (encode_ascii 37 (omega arith)))))

percent_run : items (chars (37 ∷ [])) ≡ AnyRun ∷ []
unfolding chars
percent_run = refl

-- a run and then letters alone, or letters before another run
pub read_end : (bs tail ls left : List ℕ) → IsUtf8 bs → bs ≡ 37 ∷ tail → items (chars tail) ≡ letters (chars ls) ++ items (chars left) → (length left == 0) ≡ true → ends_in (chars ls) ≡ items (chars bs)
read_end bs tail ls left u e h none =
    sym (run_first bs tail u e ∙ ap (λ (is : List Item). AnyRun ∷ is) (h ∙ ap (λ is. letters (chars ls) ++ is) (no_items left (eqb-true (length left) 0 none)) ∙ append-nil (letters (chars ls))))

pub read_within : (bs tail ls left : List ℕ) → IsUtf8 bs → bs ≡ 37 ∷ tail → items (chars tail) ≡ letters (chars ls) ++ items (chars left) → left ≡ 37 ∷ [] → within (chars ls) ≡ items (chars bs)
read_within bs tail ls left u e h one =
    sym (run_first bs tail u e ∙ ap (λ (is : List Item). AnyRun ∷ is) (h ∙ ap (λ is. letters (chars ls) ++ is) (ap (λ l. items (chars l)) one ∙ percent_run)))

-- ---- marks

-- the texts of a column that match a pattern
pub marked_liked : (o : LikeOptions) (p : Bor (List ℕ)) (ts : List (Option (List ℕ))) (vs : List (Option ScalarValue)) (t : Test) (i : ℕ) (bs : List Bool) → vs ≡ map (option_map value.Utf8) ts → t ≡ Like o p
    → marked (is_liked_at o p.now ts) i bs ≡ marked (passes_at t vs) i bs
marked_liked o p ts vs t i bs e is =
    marked-same (is_liked_at o p.now ts) (passes_at (Like o p) (map (option_map value.Utf8) ts))
    (λ r. of_text (blob_at (slice_get ts r)) ∙ ap (passes (Like o p)) (sym (strings_at value.Utf8 ts r))) i bs
    ∙ ap (λ xs. marked (passes_at (Like o p) xs) i bs) (sym e)
    ∙ ap (λ u. marked (passes_at u vs) i bs) (sym is)
  where
    of_text : (x : Option (List ℕ)) → is_liked o p.now x ≡ passes (Like o p) (option_map value.Utf8 x)
    of_text None = refl
    of_text (Some x) = refl

-- case regarded, by the pattern's items
pub marked_items : (o : LikeOptions) (p : List ℕ) (ts : List (Option (List ℕ))) (i : ℕ) (bs : List Bool) → o.case_insensitive ≡ false
    → marked (passes_items_at o.negated (items (chars p)) ts) i bs ≡ marked (is_liked_at o p ts) i bs
marked_items o p ts i bs h = marked-same (passes_items_at o.negated (items (chars p)) ts) (is_liked_at o p ts) (λ r. of_text (blob_at (slice_get ts r))) i bs
  where
    of_text : (x : Option (List ℕ)) → passes_items o.negated (items (chars p)) x ≡ is_liked o p x
    of_text None = refl
    of_text (Some x) = ap (λ b. if o.negated then not (like_text b p x) else like_text b p x) (sym h)

-- by the items that a pattern is read as
pub marked_read : (negated : Bool) (is : List Item) (p ls left : List ℕ) (ts : List (Option (List ℕ))) (i : ℕ) (bs : List Bool) → items (chars p) ≡ letters (chars ls) ++ items (chars left) → is ≡ items (chars left)
    → marked (passes_items_at negated (letters (chars ls) ++ is) ts) i bs ≡ marked (passes_items_at negated (items (chars p)) ts) i bs
marked_read negated is p ls left ts i bs h e = ap (λ xs. marked (passes_items_at negated xs ts) i bs) (ap (λ xs. letters (chars ls) ++ xs) e ∙ sym h)
