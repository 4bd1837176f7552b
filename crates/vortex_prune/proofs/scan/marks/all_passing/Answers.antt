use Rattle.std.proofs.Common.{◌≡◌, Some, arith, sym, ◌∙◌}
use Rattle.std.specs.Prelude.{vec_len}
use Rattle.vortex_prune.proofs.ZoneMaps.ZoneMarks.{marked_to, run_long}
use Rattle.vortex_prune.specs.Scanning.Marks.{is_told}
use Rattle.vortex_prune.proofs.scan.marks.all_passing.Goals as goal

pub runs-preserved : goal.runs-preserved
runs-preserved c =
    let from = c.len-from.result in
    let to = c.block_end-to.result in
    let ms = c.args.marks.now in
    let after = c.block_end-to.ensures.after in
    let within = c.block_end-to.ensures.within in
    let block = c.in_ok-block.ensures.long ∙ run_long from to ms (omega (arith, after)) within in
    let end : vec_len c.append.new.self ≡ to = omega (arith, c.in_ok-append.ensures.len, block, after, c.len-from.ensures) in
    record {
      within = omega (arith, end, within);
      told = marked_to (is_told (Some c.args.bound.now) c.args.map.now) (vec_len c.runs.told) from to (vec_len c.append.new.self) ms c.runs.told.items c.in_ok-block.block.items c.append.new.self.items
          (sym c.len-from.ensures) (omega (arith, after)) within end c.in_ok-append.ensures.items c.runs.invariant.told c.in_ok-block.ensures.told;
    }

pub runs-smaller : goal.runs-smaller
runs-smaller c =
    let block = c.in_ok-block.ensures.long ∙ run_long c.len-from.result c.block_end-to.result c.args.marks.now (omega (arith, c.block_end-to.ensures.after)) c.block_end-to.ensures.within in
    omega (arith, c.in_ok-append.ensures.len, block, c.block_end-to.ensures.after, c.block_end-to.ensures.within, c.len-from.ensures)
