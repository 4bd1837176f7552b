-- What pruning apart changes: nothing.
use Rattle.std.specs.Prelude.{◌≡◌, ◌++◌, List, Option}
use Rattle.vortex_base.specs.Data.Scopes.{Named}
use Rattle.vortex_expr.specs.Trees.Tree.{Place, Tree}
use Rattle.vortex_zone_map.specs.Zone.{ZoneData}
use Rattle.vortex_capi.specs.Prunes.{zone_answers}

-- the answers for zones behind others are those that they have alone
abbrev pub PiecesAnswerAlike : Type 0
PiecesAnswerAlike = (f s : Option (Tree Place)) (scope : List Named) (zones more : List ZoneData) → zone_answers f s scope (zones ++ more) ≡ zone_answers f s scope zones ++ zone_answers f s scope more
