use Rattle.std.proofs.Common.{Err, sym, ap, ◌∙◌}
use Rattle.vortex_capi.specs.Arrow.{end_at}
use Rattle.vortex_capi.specs.Statuses.{at_row}
use Rattle.vortex_capi.proofs.ReadLemmas.{stops}
use Rattle.vortex_capi.proofs.arrow.ArrowValues.text_ends.Goals as goal

pub returns-in-Err : goal.returns-in-Err
returns-in-Err c = λ _.
    stops at_row (end_at c.args.self.now) c.loop-row.row c.args.self.now.rows c.loop-row.ends.items c.in-Err.status c.loop-row.invariant (sym c.in-Err.ensures) c.loop-row-test.true
    ∙ ap Err (sym c.at_row.ensures)
