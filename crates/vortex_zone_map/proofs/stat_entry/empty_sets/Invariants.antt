use Rattle.std.proofs.Common.{◌≡◌}
use Rattle.vortex_zone_map.specs.Logs.{empty_sets}
use Rattle.vortex_zone_map.proofs.stat_entry.empty_sets.Given as goal

abbrev pub invariant-loop-place : goal.invariant-loop-place
invariant-loop-place l = l.sets.items ≡ empty_sets l._place
