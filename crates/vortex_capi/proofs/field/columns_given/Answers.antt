use Rattle.std.proofs.Common.{◌≢◌, Err, ap, sym, ◌∙◌}
use Rattle.vortex_base.specs.Data.Scopes.{named_columns}
use Rattle.vortex_capi.specs.declared.status.Status.TheVariants.{NoMemory}
use Rattle.vortex_capi.proofs.ScopeLemmas.{field_stops, next_column}
use Rattle.vortex_capi.proofs.field.columns_given.Goals as goal

pub returns-in-Err : goal.returns-in-Err
returns-in-Err c = λ not_memory.
    let h : c.in-Err.status ≢ NoMemory = rw c.at_column.ensures at not_memory in
    field_stops c.args.kinds c.args.fields.now c.loop-place.place c.field_there-field.result.now (named_columns c.loop-place.columns) c.in-Err.status c.field_there-field.ensures (c.in-Err.ensures h) c.loop-place.invariant c.loop-place-test.true
    ∙ ap Err (sym c.at_column.ensures)

pub loop-place-preserved : goal.loop-place-preserved
loop-place-preserved c =
    next_column c.args.kinds c.args.fields.now c.loop-place.place c.field_there-field.result.now (named_columns c.loop-place.columns) (named_columns c.add_to.new.columns) c.field_there-field.ensures c.in-Ok.ensures c.loop-place.invariant
