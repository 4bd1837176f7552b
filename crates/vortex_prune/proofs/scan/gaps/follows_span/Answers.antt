use Rattle.vortex_prune.proofs.Scanning.GapOrder.{follows_points, follows_ranges}
use Rattle.vortex_prune.proofs.scan.gaps.follows_span.Goals as goal

pub returns-then-are_points : goal.returns-then-are_points
returns-then-are_points c held = follows_points c.args.gap.now c.args.next.now c.requires.flag c.requires.next_flag (c.are_points.ensures c.if-are_points.true)

pub returns-then-is_raised : goal.returns-then-is_raised
returns-then-is_raised c held =
    let raised = c.if-is_raised.true in
    let is = c.is_raised.ensures in
    follows_ranges c.args.gap.now c.args.next.now c.requires.flag c.requires.next_flag (is.falling raised) (is.same raised) (is.covers raised) (c.is_lower.ensures held)
