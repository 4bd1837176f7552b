use Rattle.std.proofs.Common.{◌≡◌, map}
use Rattle.vortex_zone_map.specs.Blocks.{IsRun, all_of}
use Rattle.vortex_zone_map.specs.Logs.{zones_from}
use Rattle.vortex_zone_map.proofs.builder.ZoneMapBuilder.rows_from.Given as goal

abbrev pub invariant-loop-next : goal.invariant-loop-next
invariant-loop-next l = record {
  run : IsRun (all_of l.self-inside.stretches) l.run.first l.run.stretches.now;
  told : l.rows.items ≡ map (λ zone. zone.rows) (zones_from l.from l.next l.self.zones);
}
