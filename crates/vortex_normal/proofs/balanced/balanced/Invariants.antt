use Rattle.std.proofs.Common.{◌≡◌, vec_len}
use Rattle.vortex_expr.specs.Trees.Connectives.{is_and}
use Rattle.vortex_normal.specs.Balanced as spec
use Rattle.vortex_normal.proofs.balanced.balanced.Given as goal

-- what is left makes up the same predicate
abbrev pub invariant-loop-left : goal.invariant-loop-left
invariant-loop-left l = spec.balanced (is_and l.connective) l.left.items ≡ spec.balanced (is_and l.connective) l.fn.tests.items

abbrev pub decreases-loop-left : goal.decreases-loop-left
decreases-loop-left l = vec_len l.left
