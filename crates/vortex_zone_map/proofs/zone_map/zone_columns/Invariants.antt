use Rattle.std.proofs.Common.{◌≡◌, map, take}
use Rattle.vortex_zone_map.specs.ZoneMaps.{zone_column}
use Rattle.vortex_zone_map.proofs.zone_map.zone_columns.Given as goal

abbrev pub invariant-loop-k : goal.invariant-loop-k
invariant-loop-k l = l.columns.items ≡ map (zone_column l.zones) (take l.k l.heads)
