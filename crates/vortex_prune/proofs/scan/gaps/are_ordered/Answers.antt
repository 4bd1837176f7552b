use Rattle.std.proofs.Common.{arith}
use Rattle.vortex_prune.proofs.Scanning.GapOrder.{one_more_step, ordered_by_steps}
use Rattle.vortex_prune.proofs.scan.gaps.are_ordered.Goals as goal

pub loop-k-preserved : goal.loop-k-preserved
loop-k-preserved c =
    let before = c.index-gaps-k in
    let here = c.index-gaps-k-in-loop-k in
    one_more_step c.args.gaps.now c.loop-k.k before.result here.result (omega arith) (omega arith) before.is here.is (c.follows.ensures c.if-not-follows.false) c.loop-k.invariant

pub returns : goal.returns
returns c held = ordered_by_steps c.args.gaps.now (λ i d l. c.loop-k.invariant i d (omega (arith, l)))
