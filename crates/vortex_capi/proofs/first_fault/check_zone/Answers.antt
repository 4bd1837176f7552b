use Rattle.std.proofs.Common.{◌≡◌, ◌≢◌, Err, ap, arith, length, map, refl, slice_get, subst, sym, ◌∙◌}
use Rattle.std.proofs.lemmas.Option.{slice_get_within}
use Rattle.vortex_capi.specs.Tables.{no_entries, set_at}
use Rattle.vortex_capi.specs.declared.status.Status.TheVariants.{NoMemory}
use Rattle.vortex_capi.proofs.FaultLemmas.{StepsTo, one_more_value}
use Rattle.vortex_capi.proofs.TableLemmas.{source_next, source_stops}
use Rattle.vortex_capi.proofs.first_fault.check_zone.Goals as goal

pub loop-entry-init : goal.loop-entry-init
loop-entry-init c = record {
  read = λ i x less there. absurd (omega (arith, less));
  found = λ scope. (map no_entries scope, refl);
}

pub loop-entry-preserved : goal.loop-entry-preserved
loop-entry-preserved c =
    let sources = c.args.sources.now in
    let n = c.loop-entry.entry in
    let x = c.source_there-source.result.now in
    let there = c.source_there-source.ensures in
    let p = c.in-Ok._value in
    record {
      read = one_more_value sources c.args.zone n x there (record { value = p; read = c.in-Ok.ensures.read; fits = c.in-Ok.ensures.fits }) c.loop-entry.invariant.read;
      found = λ scope.
          let before = c.loop-entry.invariant.found scope in
          let new = set_at x.statistic.column x.stat p before.0 (slice_get before.0 x.statistic.column) in
          (new, source_next scope c.args.zone sources n x before.0 there before.1 p new c.in-Ok.ensures.read refl);
    }

pub returns-in-Err-clause-refused : goal.returns-in-Err-clause-refused
returns-in-Err-clause-refused c = λ not_memory scope.
    let h : c.in-Err.status ≢ NoMemory = rw c.in_column.ensures at not_memory in
    let before = c.loop-entry.invariant.found scope in
    source_stops scope c.args.zone c.args.sources.now c.loop-entry.entry c.source_there-source.result.now before.0 c.source_there-source.ensures before.1 c.in-Err.status (c.in-Err.ensures.read h) c.loop-entry-test.true
    ∙ ap Err (sym c.in_column.ensures)

pub returns-clause-read : goal.returns-clause-read
returns-clause-read c = λ i x there. c.loop-entry.invariant.read i x (omega (arith, slice_get_within c.args.sources.now i x there, c.loop-entry-test.false)) there

pub returns-clause-found : goal.returns-clause-found
returns-clause-found c = λ scope.
    let end : c.loop-entry.entry ≡ length c.args.sources.now = omega (arith, c.loop-entry-test.false, c.loop-entry.auto.entry-end) in
    subst (StepsTo scope c.args.zone c.args.sources.now) end (c.loop-entry.invariant.found scope)
