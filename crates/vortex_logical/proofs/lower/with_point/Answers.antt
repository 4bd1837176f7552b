use Rattle.std.proofs.Common.{sym, ◌∙◌, ap, subst}
use Rattle.vortex_logical.specs.declared.lower.CellTest.{CellTest}
use Rattle.vortex_logical.specs.Lowering.{IsIn, test_holds}
use Rattle.vortex_logical.proofs.Clamping.{lowered_is, lowered_in}
use Rattle.vortex_logical.proofs.lower.with_point.Goals as goal

pub returns-clause-inside : goal.returns-clause-inside
returns-clause-inside c =
    let P : CellTest → Type 0 = λ t. IsIn c.args.range t.number in
    subst P (sym c.lowered.ensures) (lowered_in c.args.comparison c.args.point c.args.range c.requires)

pub returns-clause-same : goal.returns-clause-same
returns-clause-same c = λ n h.
    lowered_is c.args.comparison c.args.point n c.args.range h ∙ ap (test_holds n) (sym c.lowered.ensures)
