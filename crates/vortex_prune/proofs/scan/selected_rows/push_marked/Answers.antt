use Rattle.std.proofs.Common.{◌∙◌, false, arith}
use Rattle.vortex_prune.proofs.Scanning.SelectLemmas.{marked_added}
use Rattle.vortex_prune.proofs.scan.selected_rows.push_marked.Goals as goal

pub loop-k-preserved : goal.loop-k-preserved
loop-k-preserved c = record {
  added =
      c.push_if.ensures.rows ∙ marked_added c.args.part c.args.from c.loop-k.k c.args.marks.now c.loop-k.rows.items c.args.rows.now.items false c.loop-k-test.true c.loop-k.invariant.added;
  room = omega arith;
}
