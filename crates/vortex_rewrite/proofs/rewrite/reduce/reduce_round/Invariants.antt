use Rattle.std.proofs.Common.{◌≡◌, ◌++◌, length}
use Rattle.vortex_rewrite.specs.Rewriting.Falsifiers.{round}
use Rattle.vortex_rewrite.proofs.rewrite.reduce.reduce_round.Given as goal

-- what is joined, and the round of what is left, make the round
abbrev pub invariant-loop-first : goal.invariant-loop-first
invariant-loop-first l = l.joined.items ++ round l.rest.rest.items ≡ round l.fn.proofs.items

abbrev pub decreases-loop-first : goal.decreases-loop-first
decreases-loop-first l = length l.rest.rest.items
