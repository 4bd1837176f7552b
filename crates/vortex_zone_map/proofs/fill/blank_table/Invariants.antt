use Rattle.std.proofs.Common.{take}
use Rattle.vortex_zone_map.specs.Tables.{AreBlank}
use Rattle.vortex_zone_map.proofs.fill.blank_table.Given as goal

abbrev pub invariant-loop-place : goal.invariant-loop-place
invariant-loop-place l = AreBlank (take l._place l.heads) l.count l.table.items
