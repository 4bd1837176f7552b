use Rattle.std.proofs.Common.{ap, ◌∙◌}
use Rattle.vortex_stats.specs.Merging.Merges.{merged_ordered}
use Rattle.vortex_stats.specs.Stat.{all_stats}
use Rattle.vortex_base_tests.proofs.statistics.writers.with_batch.Goals as goal

pub returns-in-Ok-clause-merged : goal.returns-in-Ok-clause-merged
unfolding all_stats
returns-in-Ok-clause-merged c = c.in-Ok.ensures.merged ∙ ap (merged_ordered c.args.set) c.in_ok-own.ensures.measured
