-- Words for the search for a place at which a pattern may match.
use Rattle.std.specs.Prelude.{◌≡◌, ℕ, Bool, not, ◌||◌, ◌==◌, List, drop}
use Rattle.std.specs.Char.{to_ascii_lowercase, to_ascii_uppercase}
use Rattle.std.specs.Str.{IsUtf8, IsCharBoundary}
use Rattle.memchr.specs.Find.{Nowhere, is_byte3}

-- rest is what is left of the text bs from a character of it on, or at its end, and P holds at no place before
pub record IsFromFirst (P : ℕ → Type 0) (bs rest : List ℕ) : Type 0 where
  pub text : IsUtf8 bs
  pub place : ℕ
  pub is : rest ≡ drop place bs
  pub boundary : IsCharBoundary bs place
  pub none : Nowhere P 0 place

-- a wildcard, a backslash or an ASCII letter
abbrev pub is_sign_or_letter : ℕ → Bool
is_sign_or_letter b = is_byte3 37 95 92 b || not (to_ascii_lowercase b == to_ascii_uppercase b)
