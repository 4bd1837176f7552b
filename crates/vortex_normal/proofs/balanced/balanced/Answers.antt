use Rattle.std.proofs.Common.{◌<◌, ap, arith, length, ◌∙◌}
use Rattle.vortex_expr.specs.Trees.Connectives.{is_and}
use Rattle.vortex_normal.specs.Balanced as spec
use Rattle.vortex_normal.proofs.Pairs.{paired_balanced, pairs_fewer}
use Rattle.vortex_normal.proofs.balanced.balanced.Goals as goal

pub loop-left-smaller : goal.loop-left-smaller
loop-left-smaller c =
    let left = c.loop-left.left in
    let more : 1 < length left.items = omega (arith, c.loop-left-test.true, c.len.ensures, left.ok.0) in
    omega (arith, ap length c.in_ok-left.ensures, pairs_fewer (is_and c.args.connective) left.items more, left.ok.0, c.in_ok-left.left.ok.0)

pub loop-left-preserved : goal.loop-left-preserved
loop-left-preserved c =
    ap (spec.balanced (is_and c.args.connective)) c.in_ok-left.ensures ∙ paired_balanced (is_and c.args.connective) c.loop-left.left.items ∙ c.loop-left.invariant
