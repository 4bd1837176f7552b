use Rattle.std.proofs.Common.{◌≢◌, Err, None, Ok, sym, ap, ◌∙◌}
use Rattle.std.specs.Prelude.{replicate}
use Rattle.vortex_base.specs.Data.ArrayData.{cell_values}
use Rattle.vortex_capi.specs.declared.status.Status.TheVariants.{NoMemory}
use Rattle.vortex_capi.specs.Statuses.{at_row}
use Rattle.vortex_capi.specs.Values.{cell}
use Rattle.vortex_capi.proofs.CellLemmas.{all_null}
use Rattle.vortex_capi.proofs.ReadLemmas.{reads_on, stops}
use Rattle.vortex_capi.proofs.values.Values.cells.Goals as goal

pub returns-in-Err : goal.returns-in-Err
returns-in-Err c = λ not_memory.
    let h : c.in-Err.status ≢ NoMemory = rw c.at_row.ensures at not_memory in
    stops at_row (cell c.args.dtype c.args.self.now.values.now c.args.self.now.start c.args.self.now.ends.now c.args.self.now.nulls.now) c.loop-row.row c.args.self.now.rows (cell_values c.loop-row.cells) c.in-Err.status c.loop-row.invariant (c.in-Err.ensures h) c.loop-row-test.true
    ∙ ap Err (sym c.at_row.ensures)

pub returns-in-Null : goal.returns-in-Null
returns-in-Null c =
    let v = c.args.self.now in
    rw c.in-Null.is (all_null v.values.now v.start v.ends.now v.nulls.now v.rows ∙ ap (λ n. Ok (replicate n None)) (sym c.new.ensures))

pub loop-row-preserved : goal.loop-row-preserved
loop-row-preserved c =
    let v = c.args.self.now in
    reads_on at_row (cell c.args.dtype v.values.now v.start v.ends.now v.nulls.now) c.loop-row.row (cell_values c.loop-row.cells) c.in-Ok.cell c.loop-row.invariant c.in-Ok.ensures
    ∙ ap Ok (sym c.in_ok-push-in-Ok.ensures.pushed)
