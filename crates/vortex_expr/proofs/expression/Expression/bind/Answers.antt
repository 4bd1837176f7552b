use Rattle.std.proofs.Common.{sym, ap}
use Rattle.std.specs.Prelude.{is_ok}
use Rattle.vortex_expr.proofs.Meanings.PlacedFits.{makes-fits}
use Rattle.vortex_expr.proofs.expression.Expression.bind.Goals as goal

pub returns-clause-fits : goal.returns-clause-fits
returns-clause-fits c =
    makes-fits c.args.scope.now c.args.self c.placed_in.result (sym (ap is_ok c.in_ok-type_in.ensures)) c.placed_in.ensures
