use Rattle.std.proofs.Common.{IsTrue, take}
use Rattle.vortex_stats.specs.Sets.Claims.{IsTrueOf}
use Rattle.vortex_stats.specs.declared.stat.Stat.{Stat}
use Rattle.vortex_base_tests.specs.StatisticsRows.Writing.{IsMeasuredThroughout, adds_up, written}
use Rattle.vortex_base_tests.proofs.StatisticsRows.AddedUp.{IsExactOf}
use Rattle.vortex_base_tests.proofs.statistics.writers.accumulated.Given as goal

-- the set is true of the batches so far, and exact where they have been measured throughout
abbrev pub invariant-loop-batch : goal.invariant-loop-batch
invariant-loop-batch l = record {
  truth : IsTrueOf l.set (written l.first (take l.batch-index l.more));
  exact : (s : Stat) → IsTrue (adds_up s) → IsMeasuredThroughout s l.first (take l.batch-index l.more) → IsExactOf s l.set;
}
