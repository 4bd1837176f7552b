-- Optional texts, each that is there being UTF-8.
use Rattle.std.specs.Prelude.{ℕ, Bool, true, List, Option, None, Some}
use Rattle.std.specs.List.{list_all}
use Rattle.std.specs.Str.{is_utf8}

-- null, or UTF-8
abbrev pub is_text : Option (List ℕ) → Bool
is_text None = true
is_text (Some b) = is_utf8 b

-- each is null or UTF-8
abbrev pub are_texts : List (Option (List ℕ)) → Bool
are_texts ts = list_all is_text ts
