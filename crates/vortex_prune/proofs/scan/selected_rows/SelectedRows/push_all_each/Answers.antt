use Rattle.std.proofs.Common.{◌∙◌}
use Rattle.vortex_prune.proofs.Scanning.SelectLemmas.{pair_added}
use Rattle.vortex_prune.proofs.scan.selected_rows.SelectedRows.push_all_each.Goals as goal

pub loop-row-preserved : goal.loop-row-preserved
loop-row-preserved c =
    c.in_ok-push.ensures.pushed ∙ pair_added c.args.part c.loop-row.row _ _ c.loop-row.invariant
