use Rattle.std.proofs.Common.{◌≡◌, take}
use Rattle.vortex_stats.specs.Measuring.Measured.{measured}
use Rattle.vortex_stats.proofs.stats_set.StatsSet.of_column.Given as goal

-- the statistics so far are told
abbrev pub invariant-loop-stat : goal.invariant-loop-stat
invariant-loop-stat l = l.set ≡ measured (take l.stat-index l.wanted) l.column
