use Rattle.vortex_rewrite.proofs.Rewriting.ProofTypes.{count_compares_with_zero}
use Rattle.vortex_rewrite.proofs.rewrite.builtins.none_null.Goals as goal

pub binary-requires : goal.binary-requires
binary-requires c = count_compares_with_zero c.args.x.now c.in_ok-count.count c.in_ok-zero.zero _ c.dtype-typed.ensures c.in_ok-count.ensures c.in_ok-zero.ensures
