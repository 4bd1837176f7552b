use Rattle.vortex_prune.proofs.Scanning.GapLemmas.{gap_made, gap_turned}
use Rattle.vortex_prune.proofs.scan.gaps.gap_of.Goals as goal

pub returns-then-is_falling : goal.returns-then-is_falling
returns-then-is_falling c = gap_made c.args.chunk.now.columns c.args.left.now c.args.right.now c.in_ok-left.left c.in_ok-right.right c.in_ok-left.ensures c.in_ok-right.ensures

pub returns-then-is_falling-2 : goal.returns-then-is_falling-2
returns-then-is_falling-2 c = gap_turned c.args.chunk.now.columns c.args.left.now c.args.right.now c.in_ok-left.left c.in_ok-right.right c.in_ok-left.ensures c.in_ok-right.ensures
