use Rattle.std.proofs.Common.{ap, ◌∙◌}
use Rattle.vortex_base.specs.Data.ArrayData.{value_of}
use Rattle.vortex_prune.proofs.ZoneMaps.ZoneMarks.{marked-marked}
use Rattle.vortex_prune.specs.Scanning.Leaves.{compares_at}
use Rattle.vortex_prune.specs.Scanning.Marks.{marked}
use Rattle.vortex_prune.proofs.scan.columns.keep_apart.Goals as goal

pub returns : goal.returns
returns c =
    let e = c.args.ends in
    let low = compares_at e.lower (value_of e.low) e.column.now.values in
    let high = compares_at e.upper (value_of e.high) e.column.now.values in
    c.keep_passing-2.ensures ∙ ap (marked high c.args.from) c.keep_passing.ensures ∙ marked-marked low high c.args.from c.args.marks.now
