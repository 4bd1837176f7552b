use Rattle.vortex_prune.proofs.Scanning.GapOrder.{follows_open}
use Rattle.vortex_prune.proofs.scan.gaps.follows.Goals as goal

pub returns-then-is_lower : goal.returns-then-is_lower
returns-then-is_lower c held = follows_open c.args.gap.now c.args.next.now c.in-None-None.is-0 c.in-None-None.is-1 (c.is_lower.ensures c.if-is_lower.true) (c.is_raised.ensures.covers held)
