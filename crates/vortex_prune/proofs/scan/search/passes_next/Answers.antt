use Rattle.std.proofs.Common.{ap, ◌∙◌}
use Rattle.std.specs.Prelude.{slice_get}
use Rattle.vortex_base.specs.Data.Columns.{value_at}
use Rattle.vortex_prune.proofs.Scanning.KeyLemmas.{passed_below}
use Rattle.vortex_prune.specs.Scanning.Gaps.{gap_passes, side_passes}
use Rattle.vortex_prune.proofs.scan.search.passes_next.Goals as goal

pub returns-in-None : goal.returns-in-None
returns-in-None c =
    let a = c.args.asked in
    let gap = c.args.gap.now in
    c.passes_side.ensures ∙ ap (side_passes gap.below) c.cell.ensures
    ∙ passed_below gap.flag gap.above gap.below (value_at (slice_get a.above.now.values c.args.place)) (value_at (slice_get a.below.now.values c.args.place))
    (value_at (slice_get a.flag.now.values c.args.place)) c.in-None.is c.requires

pub returns-in-Some : goal.returns-in-Some
returns-in-Some c = c.passes_gap.ensures ∙ (λ i. gap_passes c.args.gap.now (c.cell-in-Some.ensures i) (c.cell-in-Some-2.ensures i) (c.cell-in-Some-3.ensures i))
