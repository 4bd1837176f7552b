use Rattle.vortex_rewrite.proofs.Rewriting.ProofTypes.{lower_compares, upper_compares}
use Rattle.vortex_rewrite.proofs.rewrite.engine.both_halves.Goals as goal

pub binary-requires : goal.binary-requires
binary-requires c = lower_compares c.args.options c.args.x.now c.args.lower.now c.args.upper.now _ _ _ c.to_operator.ensures c.in_ok-cloned.ensures c.in_ok-cloned-2.ensures c.requires

pub binary-requires-2 : goal.binary-requires-2
binary-requires-2 c = upper_compares c.args.options c.args.x.now c.args.lower.now c.args.upper.now _ _ _ c.to_operator-2.ensures c.in_ok-cloned-3.ensures c.in_ok-cloned-4.ensures c.requires
