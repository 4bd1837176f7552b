-- The first byte of a text, where it is ASCII, is its first character.
use Rattle.std.proofs.Common.{◌≡◌, ℕ, ◌<◌, Bool, true, false, List, [], ◌∷◌, ◌++◌, length, drop, slice_index, sym, ap, ◌∙◌, arith}
use Rattle.std.specs.Char.{to_ascii_lowercase}
use Rattle.std.specs.Str.{chars, IsUtf8, IsCharBoundary}
use Rattle.std.proofs.lemmas.Str.{IsCharBoundary-after_ascii, chars_past_char, encode_ascii}
use Rattle.vortex_expr.specs.Patterns.Like.{folded}

pub boundary-one : (bs : List ℕ) → IsUtf8 bs → 0 < length bs → slice_index bs 0 < 128 → IsCharBoundary bs 1
boundary-one bs u some l = IsCharBoundary-after_ascii bs 0 u some l

pub chars-ascii : (bs rest : List ℕ) (c : ℕ) → IsUtf8 bs → 0 < length bs → c ≡ slice_index bs 0 → c < 128 → rest ≡ drop 1 bs → chars bs ≡ c ∷ chars rest
chars-ascii [] rest c u some e l f = absurd (omega arith)
chars-ascii (b ∷ bs) rest c u some e l f =
    let is : c ≡ b = e in
    let left : rest ≡ bs = f in
    let own : b ∷ bs ≡ c ∷ rest = cc in
    chars_past_char (b ∷ bs) rest c u (own ∙ sym (ap (λ (xs : List ℕ). xs ++ rest) (encode_ascii c l)))

pub folded-true : (bs rest : List ℕ) (b : Bool) (c d : ℕ) → b ≡ true → d ≡ to_ascii_lowercase c → chars bs ≡ c ∷ chars rest → folded b (chars bs) ≡ d ∷ folded b (chars rest)
folded-true bs rest true c d e f h = ap (folded true) h ∙ ap (λ x. x ∷ folded true (chars rest)) (sym f)
folded-true bs rest false c d e f h = cc

pub folded-false : (bs rest : List ℕ) (b : Bool) (c : ℕ) → b ≡ false → chars bs ≡ c ∷ chars rest → folded b (chars bs) ≡ c ∷ folded b (chars rest)
folded-false bs rest true c e h = cc
folded-false bs rest false c e h = h
