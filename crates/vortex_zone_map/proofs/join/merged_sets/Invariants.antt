use Rattle.std.proofs.Common.{◌≡◌, ◌++◌, drop, length}
use Rattle.vortex_zone_map.specs.Zone.{merged_sets}
use Rattle.vortex_zone_map.proofs.join.merged_sets.Given as goal

-- the sets so far, and behind them those that are left
abbrev pub invariant-loop-set : goal.invariant-loop-set
invariant-loop-set l = record {
  long : length l.sets.items ≡ length l.yielded;
  merged : l.sets.items ++ merged_sets (drop (length l.yielded) l.fn.left.items) (drop (length l.yielded) l.right) ≡ merged_sets l.fn.left.items l.right;
}
