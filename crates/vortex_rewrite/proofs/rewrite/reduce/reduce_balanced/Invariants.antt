use Rattle.std.proofs.Common.{◌≡◌, vec_len}
use Rattle.vortex_rewrite.specs.Rewriting.Falsifiers.{reduce_balanced}
use Rattle.vortex_rewrite.proofs.rewrite.reduce.reduce_balanced.Given as goal

-- what is left joins to the same
abbrev pub invariant-loop-alloc : goal.invariant-loop-alloc
invariant-loop-alloc l = reduce_balanced l.left.items ≡ reduce_balanced l.fn.proofs.items

abbrev pub decreases-loop-alloc : goal.decreases-loop-alloc
decreases-loop-alloc l = vec_len l.left
