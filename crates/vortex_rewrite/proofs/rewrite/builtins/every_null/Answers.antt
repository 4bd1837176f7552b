use Rattle.vortex_rewrite.proofs.Rewriting.ProofTypes.{count_compares_with_rows}
use Rattle.vortex_rewrite.proofs.rewrite.builtins.every_null.Goals as goal

pub binary-requires : goal.binary-requires
binary-requires c = count_compares_with_rows c.args.x.now c.in_ok-count.count c.in_ok-rows.rows _ c.dtype-typed.ensures c.in_ok-count.ensures c.in_ok-rows.ensures
