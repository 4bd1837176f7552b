use Rattle.vortex_expr.proofs.Meanings.RowsFit.{rows-fit, rows-match}
use Rattle.vortex_expr.proofs.laws.rows_fit.Goals as goal

pub returns-clause-fit : goal.returns-clause-fit
returns-clause-fit c = rows-fit c.args.expression.now c.args.chunk.now c.args.i

pub returns-clause-matched : goal.returns-clause-matched
returns-clause-matched c = rows-match c.args.expression.now c.args.chunk.now c.args.i
