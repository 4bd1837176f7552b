-- Texts taken apart from their ends, and the literal beginnings of patterns.
use Rattle.std.proofs.Common.{◌≡◌, ℕ, ◌+◌, ◌<◌, true, false, List, [], ◌∷◌, ◌++◌, append-nil, length, length-append, Some, refl, sym, ap, ◌∙◌, arith}
use Rattle.std.specs.Prelude.{encode_utf8_all, if◌then◌else◌, option_map}
use Rattle.std.specs.Char.{encode_utf8}
use Rattle.std.specs.Str.{chars, IsUtf8}
use Rattle.std.proofs.lemmas.Str.{chars-nil, chars_from_encodes, encodes-append, encodes-chars, length-encode, len_utf8_bounds}
use Rattle.vortex_expr.specs.Patterns.Prefix.{has_next, next_after, successor}

encoded_last : (cs : List ℕ) (c : ℕ) → encode_utf8_all (cs ++ c ∷ []) ≡ encode_utf8_all cs ++ encode_utf8 c
encoded_last cs c = encodes-append cs (c ∷ []) ∙ ap (λ (x : List ℕ). encode_utf8_all cs ++ x) (append-nil (encode_utf8 c))

-- the characters of a text are those before its last one, and that one
pub chars_last : (bs before : List ℕ) (c : ℕ) → IsUtf8 bs → IsUtf8 before → bs ≡ before ++ encode_utf8 c → chars bs ≡ chars before ++ c ∷ []
chars_last bs before c whole first e =
    sym (chars_from_encodes (chars before ++ c ∷ []) bs whole
    (encoded_last (chars before) c ∙ ap (λ (x : List ℕ). x ++ encode_utf8 c) (encodes-chars before first) ∙ sym e))

pub before_last_shorter : (bs before : List ℕ) (c : ℕ) → bs ≡ before ++ encode_utf8 c → length before < length bs
before_last_shorter bs before c e =
    let whole : length bs ≡ length before + length (encode_utf8 c) = ap length e ∙ length-append before (encode_utf8 c) in
    let one : length (encode_utf8 c) ≡ _ = length-encode c in
    let bounds = len_utf8_bounds c in
    omega arith

pub no_chars : (bs : List ℕ) → length bs ≡ 0 → chars bs ≡ []
no_chars [] h = chars-nil
no_chars (b ∷ bs) h = absurd (omega arith)

-- the last character is raised if it has a next one, and else left out
pub successor_last : (cs : List ℕ) (c : ℕ) → successor (cs ++ c ∷ []) ≡ (if has_next c then Some (cs ++ (c + 1) ∷ []) else successor cs)
successor_last [] c = refl
successor_last (d ∷ cs) c =
    ap (next_after d) (successor_last cs c) ∙
    elim (has_next c) as (λ b. next_after d (if b then Some (cs ++ (c + 1) ∷ []) else successor cs) ≡ (if b then Some (d ∷ (cs ++ (c + 1) ∷ [])) else next_after d (successor cs)))
    [ true ↦ refl | false ↦ refl ]

-- a last character without a next one is left out
pub successor_passes : (cs ds : List ℕ) (c : ℕ) → cs ≡ ds ++ c ∷ [] → has_next c ≡ false → successor ds ≡ successor cs
successor_passes cs ds c e h = sym (ap successor e ∙ successor_last ds c ∙ rw h refl)

-- and one that has a next one is raised
pub successor_raises : (cs ds : List ℕ) (c : ℕ) → cs ≡ ds ++ c ∷ [] → has_next c ≡ true → successor cs ≡ Some (ds ++ (c + 1) ∷ [])
successor_raises cs ds c e h = ap successor e ∙ successor_last ds c ∙ rw h refl

pub raised_text : (bs before : List ℕ) (n : ℕ) → IsUtf8 before → bs ≡ before ++ encode_utf8 n → Some bs ≡ option_map encode_utf8_all (Some (chars before ++ n ∷ []))
raised_text bs before n first e =
    ap Some (e ∙ sym (encoded_last (chars before) n ∙ ap (λ (x : List ℕ). x ++ encode_utf8 n) (encodes-chars before first)))
