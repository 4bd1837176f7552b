use Rattle.std.proofs.Common.{◌∙◌, false}
use Rattle.vortex_prune.proofs.Scanning.SelectLemmas.{marked_added}
use Rattle.vortex_prune.proofs.scan.selected_rows.SelectedRows.push_each.Goals as goal

pub loop-k-preserved : goal.loop-k-preserved
loop-k-preserved c =
    c.in_ok-push_where.ensures ∙ marked_added c.args.part c.args.from c.loop-k.k c.args.marks.now c.loop-k.self c.args.self.now false c.loop-k-test.true c.loop-k.invariant
