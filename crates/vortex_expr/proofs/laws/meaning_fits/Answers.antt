use Rattle.vortex_expr.proofs.Meanings.MeaningFits.{meaning-fits}
use Rattle.vortex_expr.proofs.laws.meaning_fits.Goals as goal

pub returns : goal.returns
returns c = meaning-fits c.args.expression.now c.args.row.now c.args.row_count
