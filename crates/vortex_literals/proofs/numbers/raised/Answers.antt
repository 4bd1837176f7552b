use Rattle.std.proofs.Common.{arith}
use Rattle.vortex_logical.proofs.Placing.{power-short}
use Rattle.vortex_literals.proofs.Capping.{long_raised}
use Rattle.vortex_literals.proofs.numbers.raised.Goals as goal

pub returns-then-up-gt38 : goal.returns-then-up-gt38
returns-then-up-gt38 c = λ short. let h = long_raised c.args.digits c.args.up (omega arith) (omega arith) in omega arith

pub pow-requires : goal.pow-requires
pow-requires c = let h = power-short c.args.up (omega arith) in omega arith
