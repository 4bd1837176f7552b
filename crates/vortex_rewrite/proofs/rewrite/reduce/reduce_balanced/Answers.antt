use Rattle.std.proofs.Common.{◌<◌, length, arith, ◌∙◌}
use Rattle.vortex_rewrite.proofs.Rewriting.JoinRounds.{shorter, join_again, popped}
use Rattle.vortex_rewrite.proofs.rewrite.reduce.reduce_balanced.Goals as goal

more_than_one : (c : goal.In_ok-left) → 1 < length c.loop-alloc.left.items
more_than_one c = omega (arith, c.loop-alloc.left.ok.0)

pub loop-alloc-smaller : goal.loop-alloc-smaller
loop-alloc-smaller c =
    let s : length c.in_ok-left.left.items < length c.loop-alloc.left.items = shorter _ _ c.in_ok-left.ensures (more_than_one c) in
    omega (arith, c.loop-alloc.left.ok.0, c.in_ok-left.left.ok.0)

pub loop-alloc-preserved : goal.loop-alloc-preserved
loop-alloc-preserved c = join_again _ _ c.in_ok-left.ensures (more_than_one c) ∙ c.loop-alloc.invariant

pub returns : goal.returns
returns c = popped _ _ _ c.pop.result (omega arith) c.pop.ensures.rest c.pop.ensures.items ∙ c.loop-alloc.invariant
