use Rattle.std.proofs.Common.{◌≤◌, ◌<◌, ap, ◌∙◌, arith, length}
use Rattle.vortex_expr.specs.Trees.Connectives.{is_and}
use Rattle.vortex_normal.specs.Balanced.{depth}
use Rattle.vortex_capi.specs.Nesting.Halves as spec
use Rattle.vortex_capi.specs.Nesting.Nodes.{deepest}
use Rattle.vortex_capi.proofs.Nesting.Depths.{deepest_joined}
use Rattle.vortex_capi.proofs.Nesting.Failures.{still_deep}
use Rattle.vortex_capi.proofs.Nesting.Pairs.{paired_joined, pairs_fewer, some_paired}
use Rattle.vortex_capi.proofs.nested.joining.joined.Goals as goal

pub returns-in-Err : goal.returns-in-Err
returns-in-Err c =
    still_deep _ _ c.in-Err.e c.in-Err.ensures
    (λ deep.
    let left = c.turns.left.items in
    let w = is_and c.args.connective in
    let same = ap depth (paired_joined w left ∙ c.turns.invariant.whole) in
    let below : c.args.below ≤ deepest (spec.paired w left) = deep in
    omega (arith, below, same, deepest_joined w (spec.paired w left)))

pub turns-smaller : goal.turns-smaller
turns-smaller c =
    let left = c.turns.left in
    let more : 1 < length left.items = omega (arith, c.turns-test.true, c.len.ensures, left.ok.0) in
    omega (arith, ap length c.in-Ok.ensures, pairs_fewer (is_and c.args.connective) left.items more, left.ok.0, c.in-Ok.pairs.ok.0)

pub turns-preserved : goal.turns-preserved
turns-preserved c =
    let left = c.turns.left.items in
    let w = is_and c.args.connective in
    record {
      whole = ap (spec.joined w) c.in-Ok.ensures ∙ paired_joined w left ∙ c.turns.invariant.whole;
      some = let h : 0 < length (spec.paired w left) = some_paired w left c.turns.invariant.some in omega (arith, ap length c.in-Ok.ensures, h);
    }
