-- Predicates that are satisfied by the same rows select the same rows.
use Rattle.std.specs.Prelude.{◌≡◌, List, IsTrue}
use Rattle.std.specs.List.{AllByRecursion}
use Rattle.vortex_expr.specs.Meanings.Fitting.{fits_scope}
use Rattle.vortex_expr.specs.Trees.Tree.{Tree, Place, is_plain}
use Rattle.vortex_prune.specs.Part.{IsPart, PartData}
use Rattle.vortex_prune.specs.Scanning.Selection.{full}
use Rattle.vortex_normal.specs.Same.{Same}

-- a part that the predicate fits
abbrev pub IsFitted : Tree Place → PartData → Type 0
IsFitted p part = IsPart part × IsTrue (fits_scope p part.chunk.scope)

abbrev pub SameSelectsTheSame : Type 0
SameSelectsTheSame = (p q : Tree Place) (parts : List PartData) → IsTrue (is_plain p) → IsTrue (is_plain q) → Same p q → AllByRecursion (IsFitted p) parts → full q parts ≡ full p parts
