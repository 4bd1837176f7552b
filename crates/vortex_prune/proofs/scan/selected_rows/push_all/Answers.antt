use Rattle.std.proofs.Common.{◌∙◌, arith}
use Rattle.vortex_prune.proofs.Scanning.SelectLemmas.{pair_added}
use Rattle.vortex_prune.proofs.scan.selected_rows.push_all.Goals as goal

pub loop-row-preserved : goal.loop-row-preserved
loop-row-preserved c = record {
  added =
      c.push_reserved.ensures.items ∙ pair_added c.args.part c.loop-row.row _ _ c.loop-row.invariant.added;
  room = omega arith;
}
