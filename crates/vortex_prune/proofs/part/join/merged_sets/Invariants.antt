use Rattle.std.proofs.Common.{◌≡◌, ◌++◌, drop}
use Rattle.vortex_zone_map.specs.Zone.{merged_sets}
use Rattle.vortex_prune.proofs.part.join.merged_sets.Given as goal

-- the sets so far, and those to come, are all
abbrev pub invariant-loop-i : goal.invariant-loop-i
invariant-loop-i l = l.sets.items ++ merged_sets (drop l.i l.left.stats) (drop l.i l.right.stats) ≡ merged_sets l.left.stats l.right.stats
