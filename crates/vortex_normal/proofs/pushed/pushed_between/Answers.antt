use Rattle.vortex_normal.proofs.Steps.{lower_fits, upper_fits}
use Rattle.vortex_normal.proofs.pushed.pushed_between.Goals as goal

pub comparison-requires : goal.comparison-requires
comparison-requires c = lower_fits c.args.wanted c.args.options c.args.x.now c.args.lower.now c.args.upper.now _ _ c.to_operator.ensures c.operator_as-above.ensures c.requires

pub comparison-requires-2 : goal.comparison-requires-2
comparison-requires-2 c = upper_fits c.args.wanted c.args.options c.args.x.now c.args.lower.now c.args.upper.now _ _ c.to_operator-2.ensures c.operator_as-below.ensures c.requires
