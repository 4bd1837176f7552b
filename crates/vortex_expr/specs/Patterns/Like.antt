-- LIKE, as a relation between a list of pattern items and a list of characters.
use Rattle.std.specs.Prelude.{ℕ, Bool, true, false, not, ◌&&◌, ◌||◌, ◌==◌, List, [], ◌∷◌, map, if◌then◌else◌}
use Rattle.std.specs.Str.{chars}
use Rattle.std.specs.Char.{to_ascii_lowercase}
use Rattle.vortex_expr.specs.declared.like.LikeOptions.{LikeOptions}
use Rattle.vortex_expr.specs.declared.like.Item.{Item}
use Rattle.vortex_expr.specs.declared.like.Item.TheVariants.{Char, AnyChar, AnyRun}

-- how a character of a pattern reads
pub data Sign : Type 0 where
  Percent Underscore Backslash Plain : Sign

abbrev pub sign_of : ℕ → Sign
sign_of c = if c == 37 then Percent else (if c == 95 then Underscore else (if c == 92 then Backslash else Plain))

-- the items of a pattern whose first character c has this sign; rest reads what follows it, whose first character is literal or not
abbrev pub items_from : Sign → ℕ → (Bool → List Item) → List Item
items_from Percent c rest = AnyRun ∷ rest false
items_from Underscore c rest = AnyChar ∷ rest false
items_from Backslash c rest = rest true
items_from Plain c rest = Char c ∷ rest false

-- the items of a pattern whose first character is literal if it follows a backslash; a last lone backslash stands for itself
abbrev pub items_after : List ℕ → Bool → List Item
items_after [] false = []
items_after [] true = Char 92 ∷ []
items_after (c ∷ cs) false = items_from (sign_of c) c (items_after cs)
items_after (c ∷ cs) true = Char c ∷ items_after cs false

-- the items that the characters of a pattern read as
abbrev pub items : List ℕ → List Item
items cs = items_after cs false

-- the test passes at some end of the text; the whole text and the empty one are ends of it
abbrev pub some_end : (List ℕ → Bool) → List ℕ → Bool
some_end test [] = test []
some_end test (c ∷ cs) = test (c ∷ cs) || some_end test cs

-- the items match the whole text
abbrev pub like : List Item → List ℕ → Bool
like [] [] = true
like [] (c ∷ cs) = false
like (Char d ∷ is) [] = false
like (Char d ∷ is) (c ∷ cs) = (d == c) && like is cs
like (AnyChar ∷ is) [] = false
like (AnyChar ∷ is) (c ∷ cs) = like is cs
like (AnyRun ∷ is) cs = some_end (like is) cs

-- the characters as they are compared: ASCII letters are lowered where case is ignored
abbrev pub folded : Bool → List ℕ → List ℕ
folded ignore_case cs = if ignore_case then map to_ascii_lowercase cs else cs

-- the pattern matches the text, both given by their bytes in UTF-8
abbrev pub like_text : (ignore_case : Bool) → (pattern text : List ℕ) → Bool
like_text ignore_case pattern text = like (items (folded ignore_case (chars pattern))) (folded ignore_case (chars text))

-- the same under options: the answer is turned round where they are negated
abbrev pub matches : LikeOptions → (pattern text : List ℕ) → Bool
matches o pattern text =
    if o.negated then not (like_text o.case_insensitive pattern text) else like_text o.case_insensitive pattern text

-- neither negated nor ignoring case
abbrev pub plain : LikeOptions
plain = record { negated = false; case_insensitive = false }
