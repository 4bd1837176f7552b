use Rattle.std.proofs.Common.{◌<◌, ap, ◌∙◌, arith, length}
use Rattle.vortex_sql.specs.Halves as spec
use Rattle.vortex_sql.proofs.Pairs.{paired_joined, pairs_fewer}
use Rattle.vortex_sql.proofs.halves.joined.Goals as goal

pub turns-smaller : goal.turns-smaller
turns-smaller c =
    let left = c.turns.left in
    let more : 1 < length left.items = omega (arith, c.turns-test.true, c.len.ensures, left.ok.0) in
    omega (arith, ap length c.in_ok-pairs.ensures, pairs_fewer left.items more, left.ok.0, c.in_ok-pairs.pairs.ok.0)

pub turns-preserved : goal.turns-preserved
turns-preserved c =
    ap spec.joined c.in_ok-pairs.ensures ∙ paired_joined c.turns.left.items ∙ c.turns.invariant
