use Rattle.std.proofs.Common.{take}
use Rattle.vortex_logical.specs.Conditions.{AreSame}
use Rattle.vortex_logical.proofs.condition.among.Given as goal

abbrev pub invariant-loop-literal : goal.invariant-loop-literal
invariant-loop-literal l = AreSame l.logical (take l.literal-index l.literals) l.tests.items
