use Rattle.std.proofs.Common.{◌≡◌, [], arith, length, refl, subst}
use Rattle.vortex_capi.specs.MapCells.{AllRead}
use Rattle.vortex_capi.specs.Tables.{zone_at}
use Rattle.vortex_capi.proofs.FaultLemmas.{one_more_zone_found, one_more_zone_read}
use Rattle.vortex_capi.proofs.ReadLemmas.{followed_refused, found_stops}
use Rattle.vortex_capi.proofs.first_fault.check_values.Goals as goal

pub loop-zone-init : goal.loop-zone-init
loop-zone-init c = record {
  read = λ i x there zone less. absurd (omega (arith, less));
  found = λ scope. ([], refl);
}

pub loop-zone-preserved : goal.loop-zone-preserved
loop-zone-preserved c = record {
  read = one_more_zone_read c.args.sources.now c.loop-zone.zone c.in-Ok.ensures.read c.loop-zone.invariant.read;
  found = λ scope. one_more_zone_found scope c.args.sources.now c.args.rows.now c.loop-zone.zone (c.in-Ok.ensures.found scope) (c.loop-zone.invariant.found scope);
}

pub returns-in-Err-clause-refused : goal.returns-in-Err-clause-refused
returns-in-Err-clause-refused c = λ not_memory scope.
    let before = c.loop-zone.invariant.found scope in
    let zone = c.in-Err.ensures.refused not_memory scope in
    found_stops (zone_at scope c.args.sources.now c.args.rows.now) c.loop-zone.zone (length c.args.rows.now) before.0 c.in-Err.refusal before.1 (followed_refused _ _ c.in-Err.refusal zone) c.loop-zone-test.true

pub returns-clause-read : goal.returns-clause-read
returns-clause-read c =
    let end : c.loop-zone.zone ≡ length c.args.rows.now = omega (arith, c.loop-zone-test.false, c.loop-zone.auto.zone-end) in
    subst (AllRead c.args.sources.now) end c.loop-zone.invariant.read
