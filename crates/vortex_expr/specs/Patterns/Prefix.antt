-- The texts that a pattern of LIKE can match: its literal characters up to the first wildcard, and a text above all that begin so.
use Rattle.std.specs.Prelude.{◌≡◌, ℕ, ◌+◌, Bool, true, false, not, ◌&&◌, ◌==◌, List, [], ◌∷◌, ◌++◌, Option, Some, None, encode_utf8_all, if◌then◌else◌}
use Rattle.std.specs.declared.cmp.Ordering.TheVariants.{Less}
use Rattle.std.specs.Ordering.{nat_cmp}
use Rattle.std.specs.Cmp.Lexicographic.{slice_cmp}
use Rattle.vortex_expr.specs.declared.like.Item.{Item}
use Rattle.vortex_expr.specs.declared.like.Item.TheVariants.{Char, AnyChar, AnyRun}

-- the literal characters before the first wildcard
abbrev pub literal_prefix : List Item → List ℕ
literal_prefix [] = []
literal_prefix (Char c ∷ is) = c ∷ literal_prefix is
literal_prefix (AnyChar ∷ is) = []
literal_prefix (AnyRun ∷ is) = []

-- no wildcard is among the items
abbrev pub is_exact : List Item → Bool
is_exact [] = true
is_exact (Char c ∷ is) = is_exact is
is_exact (AnyChar ∷ is) = false
is_exact (AnyRun ∷ is) = false

-- the number after the character's is a character's: no surrogate follows, and it is not the last
abbrev pub has_next : ℕ → Bool
has_next c = not (c == 55295) && not (c == 1114111)

-- the character before a successor of what follows it, or the next character in its place
abbrev pub next_after : ℕ → Option (List ℕ) → Option (List ℕ)
next_after c (Some ds) = Some (c ∷ ds)
next_after c None = if has_next c then Some ((c + 1) ∷ []) else None

-- the longest beginning whose last character has a next one, with that character raised: the least of the texts that raising a character so gives
abbrev pub successor : List ℕ → Option (List ℕ)
successor [] = None
successor (c ∷ cs) = next_after c (successor cs)

-- every text that begins with these characters is below their successor, if they have one; texts are compared by their bytes
abbrev pub AreBelowSuccessor : List ℕ → Type 0
AreBelowSuccessor beginning = (above rest : List ℕ) → successor beginning ≡ Some above → slice_cmp nat_cmp (encode_utf8_all (beginning ++ rest)) (encode_utf8_all above) ≡ Less

-- a pattern as far as it bounds the texts that it matches: its literal characters before the first wildcard, by their bytes, and whether it has none
pub record PatternData : Type 0 where
  pub prefix : List ℕ
  pub is_exact : Bool

abbrev pub pattern_of : List Item → PatternData
pattern_of is = record { prefix = encode_utf8_all (literal_prefix is); is_exact = is_exact is }

-- the one text that the pattern matches, where it has no wildcard
abbrev pub exact_text : PatternData → Option (List ℕ)
exact_text p = if p.is_exact then Some p.prefix else None
