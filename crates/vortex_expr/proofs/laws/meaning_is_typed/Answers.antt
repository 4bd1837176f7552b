use Rattle.vortex_expr.proofs.Meanings.MeaningTyped.{meaning-typed, null-where-nullable}
use Rattle.vortex_expr.proofs.laws.meaning_is_typed.Goals as goal

pub returns-clause-typed : goal.returns-clause-typed
returns-clause-typed c = meaning-typed c.args.expression.now c.args.row.now c.args.row_count

pub returns-clause-null : goal.returns-clause-null
returns-clause-null c = null-where-nullable c.args.expression.now c.args.row.now c.args.row_count
