use Rattle.std.proofs.Common.{◌≡◌, List, length, map, take}
use Rattle.vortex_zone_map.specs.Zone.{ZoneData}
use Rattle.vortex_zone_map.specs.ZoneMaps.{zone_column}
use Rattle.vortex_zone_map.specs.Tables.{AreCells}
use Rattle.vortex_zone_map.proofs.columns.columns_of.Given as goal

-- the columns so far
abbrev pub invariant-loop-cells : goal.invariant-loop-cells
invariant-loop-cells l = record {
  long : length l.columns.items ≡ length l.yielded;
  columns : (zones : List ZoneData) → AreCells l.heads zones l.fn.table.items → l.columns.items ≡ map (zone_column zones) (take (length l.yielded) l.heads);
}
