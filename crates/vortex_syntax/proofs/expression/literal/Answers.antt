use Rattle.std.proofs.Common.{sym, ◌∙◌}
use Rattle.vortex_syntax.proofs.LiteralLemmas.{scalar_made, scalar_refused}
use Rattle.vortex_syntax.proofs.expression.literal.Goals as goal

pub returns-in-Ok : goal.returns-in-Ok
returns-in-Ok c = scalar_made c.args.dtype c.args.value c.in-Ok.scalar (λ e. e) c.constant.result (sym c.in-Ok.is ∙ c.try_new.ensures) c.constant.ensures

pub returns-in-Err : goal.returns-in-Err
returns-in-Err c = scalar_refused c.args.dtype c.args.value c.in-Err.refusal c.of_refusal.result (sym c.in-Err.is ∙ c.try_new.ensures) c.of_refusal.ensures
