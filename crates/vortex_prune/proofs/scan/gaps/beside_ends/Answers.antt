use Rattle.vortex_prune.proofs.Scanning.GapLemmas.{ends_made, ends_turned}
use Rattle.vortex_prune.proofs.scan.gaps.beside_ends.Goals as goal

pub returns-then-are_ends : goal.returns-then-are_ends
returns-then-are_ends c =
    let a = c.args in
    ends_made a.chunk.now.columns a.left.now a.right.now a.flag.now c.in_ok-left.left c.in_ok-right.right c.in_ok-flag_of.field-0 c.in_ok-left.ensures c.in_ok-right.ensures c.in_ok-flag_of.ensures
    (c.are_ends.ensures c.if-are_ends.true)

pub returns-then-are_ends-2 : goal.returns-then-are_ends-2
returns-then-are_ends-2 c =
    let a = c.args in
    ends_turned a.chunk.now.columns a.left.now a.right.now a.flag.now c.in_ok-left.left c.in_ok-right.right c.in_ok-flag_of.field-0 c.in_ok-left.ensures c.in_ok-right.ensures c.in_ok-flag_of.ensures
    (c.are_ends-else-are_ends.ensures c.if-are_ends-2.true)
