use Rattle.std.proofs.Common.{◌≡◌, ◌-◌, ◌≤◌}
use Rattle.vortex_zone_map.specs.Blocks.{IsCounted}
use Rattle.vortex_zone_map.proofs.blocks.Blocks.count_to.Given as goal

-- the blocks are the same, and what is told of them is so of more and more of them
abbrev pub invariant-up : goal.invariant-up
invariant-up l = record {
  same : l.self.blocks ≡ l.fn.self.blocks;
  counted : IsCounted l.self;
}

abbrev pub decreases-up : goal.decreases-up
decreases-up l = l.near - l.self.near

abbrev pub invariant-down : goal.invariant-down
invariant-down l = record {
  same : l.self.blocks ≡ l.fn.self.blocks;
  counted : IsCounted l.self;
  enough : l.near ≤ l.self.near;
}

abbrev pub decreases-down : goal.decreases-down
decreases-down l = l.self.near - l.near
