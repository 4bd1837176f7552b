-- Patterns of LIKE with case regarded, as literal characters at the front and what follows them, and which optional texts pass.
use Rattle.std.specs.Prelude.{ℕ, Bool, false, not as not_b, List, [], ◌∷◌, ◌++◌, Option, Some, None, map, if◌then◌else◌, slice_get}
use Rattle.std.specs.Str.{chars}
use Rattle.vortex_base.specs.Data.VarBinArray.{blob_at}
use Rattle.vortex_expr.specs.Patterns.Like.{items, like, matches}
use Rattle.vortex_expr.specs.declared.like.Item.{Item}
use Rattle.vortex_expr.specs.declared.like.Item.TheVariants.{Char, AnyRun}
use Rattle.vortex_expr.specs.declared.like.LikeOptions.{LikeOptions}
use Rattle.vortex_prune.specs.declared.scan.pattern.Rest.{Rest}
use Rattle.vortex_prune.specs.declared.scan.pattern.Rest.TheVariants.{Nothing, Ends, Within, Other}

-- literal characters
abbrev pub letters : List ℕ → List Item
letters cs = map Char cs

-- any run, and these characters at the end
abbrev pub ends_in : List ℕ → List Item
ends_in cs = AnyRun ∷ letters cs

-- these characters between two runs
abbrev pub within : List ℕ → List Item
within cs = AnyRun ∷ (letters cs ++ (AnyRun ∷ []))

-- the items that follow the front
abbrev pub rest_items : Rest → List Item
rest_items Nothing = []
rest_items (Ends s) = ends_in (chars s.now)
rest_items (Within s) = within (chars s.now)
rest_items (Other s) = items (chars s.now)

-- an optional text matches a pattern under options; null doesn't
abbrev pub is_liked : LikeOptions → (pattern : List ℕ) → Option (List ℕ) → Bool
is_liked o p None = false
is_liked o p (Some t) = matches o p t

-- the text at a place does
abbrev pub is_liked_at : LikeOptions → (pattern : List ℕ) → List (Option (List ℕ)) → ℕ → Bool
is_liked_at o p ts r = is_liked o p (blob_at (slice_get ts r))

-- items match an optional text or, where negated, don't; of null neither is so
abbrev pub passes_items : (negated : Bool) → List Item → Option (List ℕ) → Bool
passes_items negated is None = false
passes_items negated is (Some t) = if negated then not_b (like is (chars t)) else like is (chars t)

-- the same of the text at a place
abbrev pub passes_items_at : (negated : Bool) → List Item → List (Option (List ℕ)) → ℕ → Bool
passes_items_at negated is ts r = passes_items negated is (blob_at (slice_get ts r))
