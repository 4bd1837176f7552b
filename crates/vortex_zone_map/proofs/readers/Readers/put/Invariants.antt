use Rattle.std.proofs.Common.{◌≡◌, ◌<◌, ◌*◌, ◌++◌, ◌-◌, ◌∷◌, List, Some, length, true}
use Rattle.std.specs.Prelude.{slice_get}
use Rattle.vortex_zone_map.specs.Zone.{ZoneData}
use Rattle.vortex_zone_map.specs.ZoneMaps.{StatColumn}
use Rattle.vortex_zone_map.proofs.TableLemmas.{AreMixed}
use Rattle.vortex_zone_map.specs.Kept.{saying}
use Rattle.vortex_zone_map.specs.Tables.{AreCells, reads, slot, with_saying}
use Rattle.vortex_zone_map.proofs.readers.Readers.put.Given as goal

-- it is under the heads so far, and the next one reads it too, if there is one
abbrev pub invariant-readers : goal.invariant-readers
invariant-readers l = record {
  mixed : (before after : List ZoneData) (z : ZoneData) → length before ≡ l.zone → z.rows ≡ l.rows → length z.stats * 9 ≡ length l.self.links.now.firsts.items → AreCells l.self.heads.now (before ++ z ∷ after) l.initial.cells
      → AreMixed l.self.heads.now l.place (before ++ with_saying (saying l.self.var_len_values.now l.told) z ∷ after) (before ++ z ∷ after) l.cells;
  read : (h : StatColumn) → slice_get l.self.heads.now l.place ≡ Some h → (reads h l.told.column l.told.stat ≡ true) × (slot l.told.column l.told.stat < length l.self.links.now.firsts.items);
}

abbrev pub decreases-readers : goal.decreases-readers
decreases-readers l = length l.self.heads.now - l.place
