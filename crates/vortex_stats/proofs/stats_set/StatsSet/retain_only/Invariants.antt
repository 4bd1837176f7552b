use Rattle.std.proofs.Common.{◌≡◌, ◌++◌}
use Rattle.vortex_stats.specs.Stat.{all_stats}
use Rattle.vortex_stats.proofs.Sets.Retained.{retained_so_far}
use Rattle.vortex_stats.proofs.stats_set.StatsSet.retain_only.Given as goal

-- of the statistics so far those that are no part of the list have no entry
abbrev pub invariant-loop-stat : goal.invariant-loop-stat
invariant-loop-stat l = record {
  kept : l.self ≡ retained_so_far l.stats l.yielded l.fn.self;
  all : l.yielded ++ l.stat-iterator ≡ all_stats;
}
