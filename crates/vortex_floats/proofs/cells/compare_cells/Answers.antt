use Rattle.std.proofs.Common.{sym, subst}
use Rattle.std.specs.Prelude.{IfSome}
use Rattle.vortex_floats.specs.Cells.{SaysOf}
use Rattle.vortex_floats.proofs.Saying.{compared_says}
use Rattle.vortex_floats.proofs.cells.compare_cells.Goals as goal

pub returns-clause-says : goal.returns-clause-says
returns-clause-says c =
    subst (λ r. IfSome r (SaysOf c.args.float c.args.nan c.args.comparison c.args.bits)) (sym c.compared.ensures) (compared_says c.args.float c.args.nan c.args.comparison c.args.bits)
