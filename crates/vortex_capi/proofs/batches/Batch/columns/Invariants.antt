use Rattle.std.proofs.Common.{◌≡◌, List, Ok, length}
use Rattle.vortex_zone_map.specs.Zone.{ZoneData}
use Rattle.vortex_capi.specs.MapCells.{batch_zones}
use Rattle.vortex_capi.specs.NamedStats.{AreNamed}
use Rattle.vortex_capi.proofs.batches.Batch.columns.Given as goal

-- what is named stands below the heads so far
abbrev pub invariant-loop-place : goal.invariant-loop-place
invariant-loop-place l = record {
  long : length l.columns.items ≡ l.place;
  told : (zones : List ZoneData) → batch_zones l.self ≡ Ok zones → AreNamed l.lookups.named.items l.lookups.heads.items zones l.columns.items;
}
