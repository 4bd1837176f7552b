use Rattle.std.proofs.Common.{◌-◌, arith}
use Rattle.vortex_prune.proofs.Scanning.SelectLemmas.{block_added}
use Rattle.vortex_prune.specs.Scanning.RangeScans.{is_true_in}
use Rattle.vortex_prune.proofs.scan.select.select.Goals as goal

pub runs-preserved : goal.runs-preserved
runs-preserved c =
    let r = c.args.range in
    let from = c.runs.from in
    let to = c.block_end-to.result in
    record {
      within = c.block_end-to.ensures.within;
      selected =
          block_added (is_true_in c.args.predicate.now r.chunk.now.columns r.first r.rows) c.args.place from (to - from) to
          c.select_block.new.selected c.args.selected.now c.runs.selected (omega (arith, c.block_end-to.ensures.after)) c.runs.invariant.selected c.in_ok-select_block.ensures.selected;
      evaluated = rw c.in_ok-select_block.ensures.evaluated (rw c.runs.invariant.evaluated (omega (arith, c.block_end-to.ensures.after, c.block_end-to.ensures.within)));
    }
