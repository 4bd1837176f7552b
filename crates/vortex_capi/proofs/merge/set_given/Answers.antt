use Rattle.std.proofs.Common.{◌≢◌, Err, ap, sym, ◌∙◌}
use Rattle.vortex_capi.specs.declared.status.Status.TheVariants.{NoMemory}
use Rattle.vortex_capi.proofs.MergeLemmas.{next_fits, set_goes_on, set_stops}
use Rattle.vortex_capi.proofs.merge.set_given.Goals as goal

pub returns-in-Err-clause-read : goal.returns-in-Err-clause-read
returns-in-Err-clause-read c = λ not_memory.
    let h : c.in-Err.status ≢ NoMemory = rw c.in_column.ensures at not_memory in
    set_stops c.args.side c.args.dtype c.args.zone c.args.table.now c.loop-entry.entry c.loop-entry.set c.in-Err.status c.loop-entry.invariant.0 (c.in-Err.ensures.read h) c.loop-entry-test.true
    ∙ ap Err (sym c.in_column.ensures)

pub loop-entry-preserved : goal.loop-entry-preserved
loop-entry-preserved c = (
  set_goes_on c.args.side c.args.dtype c.args.zone c.args.table.now c.loop-entry.entry c.loop-entry.set c.put.new.self c.in-Ok.found c.loop-entry.invariant.0 c.in-Ok.ensures.read c.put.ensures,
  next_fits c.args.dtype c.loop-entry.set c.put.new.self c.in-Ok.found c.loop-entry.invariant.1 c.in-Ok.ensures.fits c.put.ensures,
)
