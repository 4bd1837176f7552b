use Rattle.std.proofs.Common.{◌≡◌, map, take}
use Rattle.vortex_base.specs.Data.ArrayData.{cell_values}
use Rattle.vortex_zone_map.specs.ZoneMaps.{zone_value}
use Rattle.vortex_zone_map.proofs.zone_map.zone_cells.Given as goal

abbrev pub invariant-loop-place : goal.invariant-loop-place
invariant-loop-place l = cell_values l.cells ≡ map (zone_value l.head.aggregate l.head.source) (take l.place l.zones)
