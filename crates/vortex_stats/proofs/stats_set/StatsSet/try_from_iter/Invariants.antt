use Rattle.std.proofs.Common.{◌≡◌, []}
use Rattle.vortex_stats.specs.Sets.Entries.{with_entries}
use Rattle.vortex_stats.proofs.stats_set.StatsSet.try_from_iter.Given as goal

-- the set has the items so far
abbrev pub invariant-loop-item : goal.invariant-loop-item
invariant-loop-item g l = l.set ≡ with_entries l.yielded []
