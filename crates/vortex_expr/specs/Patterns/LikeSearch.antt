-- Words for the search for a match: what is left of a text, and where the items before the first run end.
use Rattle.std.specs.Prelude.{ℕ, ◌==◌, List, [], ◌∷◌, if◌then◌else◌}
use Rattle.std.specs.Str.{chars}
use Rattle.vortex_expr.specs.declared.like.Item.{Item}
use Rattle.vortex_expr.specs.declared.like.Item.TheVariants.{Char, AnyChar, AnyRun}
use Rattle.vortex_expr.specs.declared.like.Characters.{Characters}
use Rattle.vortex_expr.specs.declared.like.Front.{Front}
use Rattle.vortex_expr.specs.declared.like.Front.TheVariants as front
use Rattle.vortex_expr.specs.Patterns.Like.{folded, items}

-- the characters that are left, as they are compared
abbrev pub characters : Characters → List ℕ
characters c = folded c.ignore_case (chars c.text.now)

-- where the items before the first run end: before a run, at the ends of both, or at a mismatch
pub data Stop : Type 0 where
  Mismatch : Stop
  Whole : Stop
  BeforeRun : List Item → List ℕ → Stop

abbrev pub stop : List Item → List ℕ → Stop
stop [] [] = Whole
stop [] (c ∷ cs) = Mismatch
stop (Char d ∷ is) [] = Mismatch
stop (Char d ∷ is) (c ∷ cs) = if d == c then stop is cs else Mismatch
stop (AnyChar ∷ is) [] = Mismatch
stop (AnyChar ∷ is) (c ∷ cs) = stop is cs
stop (AnyRun ∷ is) cs = BeforeRun is cs

-- the stop that a front is
abbrev pub reached : Front → Stop
reached (front.Mismatch steps) = Mismatch
reached front.Whole = Whole
reached (front.BeforeRun p t) = BeforeRun (items (characters p)) (characters t)
