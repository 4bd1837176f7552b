use Rattle.std.proofs.Common.{◌≡◌, ◌*◌, ◌++◌, ◌∷◌, List, length, take}
use Rattle.vortex_zone_map.specs.Zone.{Entries, ZoneData}
use Rattle.vortex_zone_map.proofs.TableLemmas.{zone_with}
use Rattle.vortex_zone_map.specs.Kept.{said, sets_with}
use Rattle.vortex_zone_map.specs.Tables.{AreCells}
use Rattle.vortex_zone_map.proofs.readers.Readers.put_all.Given as goal

-- what is told so far is under the heads
abbrev pub invariant-loop-next : goal.invariant-loop-next
invariant-loop-next l =
    (before after : List ZoneData) (sets : List Entries) → length before ≡ l.zone → length sets * 9 ≡ length l.self.links.now.firsts.items
    → AreCells l.self.heads.now (before ++ zone_with l.rows sets ∷ after) l.initial.cells
    → AreCells l.self.heads.now (before ++ zone_with l.rows (sets_with sets (said l.self.var_len_values.now (take l.next l.told))) ∷ after) l.cells
