use Rattle.vortex_prune.proofs.Honesty.MeasuredParts.{measured_is_part, measured_is_true_part}
use Rattle.vortex_prune.proofs.part.Part.measured.Goals as goal

pub invariant_of-result : goal.invariant_of-result
invariant_of-result c = measured_is_part c.args.chunk _ c.measured_sets.ensures.is_chunk c.in-Ok.ensures.measured

pub returns-in-Ok-clause-truth : goal.returns-in-Ok-clause-truth
returns-in-Ok-clause-truth c = measured_is_true_part c.args.chunk _ c.measured_sets.ensures.is_chunk c.in-Ok.ensures.measured
