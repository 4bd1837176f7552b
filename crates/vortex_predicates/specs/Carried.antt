-- What values within bounds satisfy, of a predicate and of one that the same rows satisfy.
use Rattle.std.specs.Prelude.{◌↔◌, List, IsTrue}
use Rattle.vortex_base.specs.Data.Scopes.{Named}
use Rattle.vortex_expr.specs.Meanings.Fitting.{fits_scope}
use Rattle.vortex_expr.specs.Trees.Tree.{Tree, Place, is_plain}
use Rattle.vortex_zone_map.specs.Zone.{IsZone, ZoneData}
use Rattle.vortex_prune.specs.Scanning.Complete.{IsBoxIn}
use Rattle.vortex_rewrite.specs.Rewriting.ReadOnce.{Box, IsInOrder, IsSatisfiable}
use Rattle.vortex_normal.specs.Same.{HasNoOther, Same, StaysPlain}

-- over the bounds of a zone that are known and in order, some values satisfy the second predicate exactly if some satisfy the first, also where the second has fewer columns
abbrev pub SatisfiabilityIsCarried : Type 0
SatisfiabilityIsCarried =
    (p q : Tree Place) (scope : List Named) (zone : ZoneData) (box : Box) → IsTrue (is_plain p) → Same p q → HasNoOther p q → StaysPlain p q → IsZone scope zone → IsTrue (fits_scope p scope) →
    IsBoxIn zone.stats p box → IsInOrder p box → IsSatisfiable q box zone.rows ↔ IsSatisfiable p box zone.rows
