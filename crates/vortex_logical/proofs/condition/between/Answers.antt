use Rattle.std.proofs.Common.{◌∙◌, ap}
use Rattle.vortex_logical.specs.declared.comparison.Comparison.TheVariants as comparison
use Rattle.vortex_logical.specs.Conditions.{both, compared, tested}
use Rattle.vortex_logical.proofs.Conditioned.{cell_same}
use Rattle.vortex_logical.proofs.condition.between.Goals as goal

pub returns : goal.returns
returns c = λ cell h.
    ap (λ p. both p (compared c.args.logical comparison.Lte cell c.args.high)) (cell_same c.args.logical comparison.Gte c.args.low c.compare-first.result c.compare-first.ensures.same cell h)
    ∙ ap (both (tested cell c.compare-first.result)) (cell_same c.args.logical comparison.Lte c.args.high c.compare-second.result c.compare-second.ensures.same cell h)
