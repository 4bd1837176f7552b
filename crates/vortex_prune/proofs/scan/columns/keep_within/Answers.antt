use Rattle.std.proofs.Common.{◌+◌, ap, get_or, map, ◌∙◌, false}
use Rattle.std.specs.Prelude.{◌&&◌, option_map}
use Rattle.vortex_base.specs.Data.PrimitiveArray.{optionals}
use Rattle.vortex_prune.specs.Scanning.Leaves.{compares_at, is_between_at}
use Rattle.vortex_prune.proofs.ZoneMaps.ZoneMarks.{marked_all, marked_more}
use Rattle.vortex_prune.proofs.scan.columns.keep_within.Goals as goal

pub loop-k-preserved : goal.loop-k-preserved
loop-k-preserved g c =
    let cells = map (option_map g.T.Native.scalar) (optionals c.args.values.now c.args.validity.now) in
    let o = g.L.Comparison.operator in
    let p = g.U.Comparison.operator in
    let v = g.T.Native.scalar c.args.low in
    let w = g.T.Native.scalar c.args.high in
    let mark = get_or c.loop-k.marks c.loop-k.k false in
    marked_more (is_between_at o p v w cells) c.args.from c.loop-k.k c.args.marks.now c.loop-k.marks _ c.loop-k.invariant c.loop-k-test.true
    (ap (λ b. mark && (b && c.is_so-is_below.result)) c.is_so-is_above.ensures ∙ ap (λ b. mark && (compares_at o v cells (c.args.from + c.loop-k.k) && b)) c.is_so-is_below.ensures)

pub returns : goal.returns
returns g c =
    let cells = map (option_map g.T.Native.scalar) (optionals c.args.values.now c.args.validity.now) in
    c.loop-k.invariant
    ∙ marked_all (is_between_at g.L.Comparison.operator g.U.Comparison.operator (g.T.Native.scalar c.args.low) (g.T.Native.scalar c.args.high) cells) c.args.from c.loop-k.k c.args.marks.now c.loop-k-test.false
