use Rattle.std.proofs.Common.{arith}
use Rattle.vortex_expr.proofs.Patterns.PieceLemmas.{length-characters}
use Rattle.vortex_expr.proofs.like.Characters.most.Goals as goal

pub returns : goal.returns
returns c = let h = length-characters c.args.self in omega arith
