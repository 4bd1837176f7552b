use Rattle.std.proofs.Common.{◌-◌, ◌<◌, ◌≤◌, length}
use Rattle.vortex_zone_map.specs.Blocks.{before}
use Rattle.vortex_zone_map.proofs.blocks.Blocks.search.Given as goal

-- the stretch stands behind where the lower block begins, and before where the upper one does
abbrev pub invariant-halves : goal.invariant-halves
invariant-halves l = record {
  ascends : l.low < l.high;
  within : l.high ≤ length l.self.blocks.items;
  from : before l.self.blocks.items l.low ≤ l.place;
  to : l.place < before l.self.blocks.items l.high;
}

abbrev pub decreases-halves : goal.decreases-halves
decreases-halves l = l.high - l.low
