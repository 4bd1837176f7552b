use Rattle.std.proofs.Common.{◌∙◌, ap}
use Rattle.std.specs.Prelude.{Some}
use Rattle.vortex_base.specs.Data.Scalars.{is_optional_value}
use Rattle.vortex_expr.specs.Trees.Tree.{literal}
use Rattle.vortex_sql.proofs.Made.{chosen}
use Rattle.vortex_sql.proofs.literal.constant.Goals as goal

pub returns : goal.returns
returns c =
    c.in_ok-lit.ensures
    ∙ ap (λ s. literal s) (chosen (is_optional_value (Some c.args.value) c.args.dtype) (record { dtype = c.args.dtype; value = Some c.args.value }) c.in_ok-scalar.scalar c.in_ok-scalar.ensures)
