use Rattle.std.proofs.Common.{sym}
use Rattle.vortex_stats.proofs.Sets.Revisions.{merged_ordered-by_steps}
use Rattle.vortex_stats.proofs.laws.merges_go_step_by_step.Goals as goal

pub returns : goal.returns
returns c = λ left other. sym (merged_ordered-by_steps left other)
