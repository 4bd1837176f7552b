use Rattle.std.proofs.Common.{◌≡◌, Err, List, ap, length, subst, sym, ◌∙◌}
use Rattle.std.proofs.lemmas.Result.{err_from_is_err_and}
use Rattle.vortex_prune.proofs.Scanning.PartPromises.{err_same, refuses_by_zones, zones_by_verdicts}
use Rattle.vortex_prune.proofs.Scanning.WholeScan.{of_two}
use Rattle.vortex_prune.proofs.ZoneMaps.ZoneKept.{map_long}
use Rattle.vortex_prune.proofs.ZoneMaps.ZoneRefusals.{open_alike}
use Rattle.vortex_prune.proofs.ZoneMaps.ZoneScan.{parts_alike}
use Rattle.vortex_prune.specs.Scanning.ZoneScans.{IsShutIfVerdict, pruning_causes, zone_verdicts}
use Rattle.vortex_prune.specs.Zones.{zones_of}
use Rattle.vortex_zone_map.specs.ZoneMaps.{MapData}
use Rattle.vortex_prune.specs.declared.scan.verdict.Verdict.{Verdict}
use Rattle.vortex_rewrite.specs.Causes.{Causes, IsRefusal}
use Rattle.vortex_rewrite.specs.Rewriting.Falsifiers.{falsifier, satisfier}
use Rattle.vortex_rewrite.specs.Rewriting.Own.{own_rules}
use Rattle.vortex_prune.proofs.scan.zones.scan_rules.Goals as goal

pub scan_verdicts-requires-clause-long : goal.scan_verdicts-requires-clause-long
scan_verdicts-requires-clause-long g c =
    let z = c.args.zones.now in
    ap length c.deref.ensures.value ∙ c.in_ok-verdicts.ensures.long ∙ map_long c.map.result.now z.scope z.parts c.map.ensures.value

pub returns-clause-answered : goal.returns-clause-answered
returns-clause-answered g c =
    let p = c.args.predicate.now in
    let z = c.args.zones.now in
    let own = own_rules (λ b. (g.dyn-1.0.entry b.vtable).1) c.args.rules.now.own.items in
    let told = c.in_ok-verdicts.ensures in
    of_two c.scan_verdicts.result _ _ _
    (λ scan found shut.
    record {
      found = found (falsifier own p) (satisfier own p) (c.deref.ensures.value ∙ told.verdicts (zones_of z.parts) c.map.ensures.is_map ∙ ap (λ (m : MapData). zone_verdicts (falsifier own p) (satisfier own p) m.scope (zones_of z.parts)) c.map.ensures.value);
      predicate = told.predicate;
      closed = sym (open_alike (falsifier own p) c.map.result.now.rows z.parts (map_long c.map.result.now z.scope z.parts c.map.ensures.value)) ∙ told.closed;
      kept_closed = shut (satisfier own p) (subst (λ (vs : List Verdict). IsShutIfVerdict (satisfier own p) vs) (sym c.deref.ensures.value) told.kept_closed);
    })
    c.scan_verdicts.ensures.found c.scan_verdicts.ensures.kept_closed

pub returns-clause-refused : goal.returns-clause-refused
returns-clause-refused g c =
    zones_by_verdicts (own_rules (λ b. (g.dyn-1.0.entry b.vtable).1) c.args.rules.now.own.items) c.args.predicate.now c.args.zones.now.parts c.scan_verdicts.result c.in_ok-verdicts.ensures.predicate c.scan_verdicts.ensures.memory

pub returns-in_err-verdicts-clause-refused : goal.returns-in_err-verdicts-clause-refused
returns-in_err-verdicts-clause-refused g c =
    let q = err_from_is_err_and c.from_residual.result c.from_residual.ensures.1 in
    let p = c.args.predicate.now in
    let z = c.args.zones.now in
    let m = c.map.result.now in
    let own = own_rules (λ b. (g.dyn-1.0.entry b.vtable).1) c.args.rules.now.own.items in
    let same : m.scope ≡ z.scope = ap (λ (x : MapData). x.scope) c.map.ensures.value in
    rw (q.1, q.2)
    (refuses_by_zones own p z.parts _ (λ other. ap Err (err_same (c.in_err-verdicts.ensures.not_predicate other)))
    (λ predicate.
    subst (λ (k : Causes). IsRefusal k c.in_err-verdicts.field-0.0) (ap (λ ns. pruning_causes own p ns (zones_of z.parts)) same ∙ parts_alike own p z.scope z.parts c.parts-parts.ensures.scoped)
    (c.in_err-verdicts.ensures.refusal predicate (zones_of z.parts) c.map.ensures.is_map)))
