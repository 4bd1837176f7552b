use Rattle.std.proofs.Common.{◌++◌, drop, map, take}
use Rattle.vortex_zone_map.specs.Blocks.{IsRun, all_of}
use Rattle.vortex_zone_map.specs.Logs.{zones_from}
use Rattle.vortex_zone_map.specs.Tables.{AreCells, blank_zone}
use Rattle.vortex_zone_map.proofs.builder.ZoneMapBuilder.cells_from.Given as goal

-- the zones so far are told, and of the others nothing is
abbrev pub invariant-loop-next : goal.invariant-loop-next
invariant-loop-next l =
    let zones = zones_from l.from l.count l.self.zones in
    record {
      run : IsRun (all_of l.self-inside.stretches) l.run.first l.run.stretches.now;
      told : AreCells l.heads (take l.next zones ++ map (blank_zone l.self-inside.columns) (drop l.next zones)) l.cells.items;
    }
