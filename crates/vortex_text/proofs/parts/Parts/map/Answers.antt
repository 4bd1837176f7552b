use Rattle.std.proofs.Common.{◌≡◌, All, List, subst, sym, take, ◌∙◌, arith}
use Rattle.std.proofs.lemmas.List.{take_all}
use Rattle.vortex_base.specs.Data.Scopes.{Named}
use Rattle.vortex_prune.specs.Part.{PartData}
use Rattle.vortex_zone_map.specs.Zone.{AreZonesOf, ZoneData}
use Rattle.vortex_prune.specs.Zones.{zones_of}
use Rattle.vortex_zone_map.specs.ZoneMaps.{IsMapOf}
use Rattle.vortex_text.proofs.LeftLemmas.{all_map, zones_are}
use Rattle.vortex_text.specs.Fitting.{IsPartOf}
use Rattle.vortex_text.proofs.parts.Parts.map.Goals as goal

pub map-requires-clause-fits : goal.map-requires-clause-fits
map-requires-clause-fits c =
    let s = c.self.inside in
    let scope = c.args.scope.now in
    let zones = s.log.zones in
    let whole : take c.len.result zones ≡ zones = take_all c.len.result zones (omega (arith, c.len.ensures)) in
    let P : List ZoneData → Type 0 = AreZonesOf scope in
    subst (λ (ns : List Named). AreZonesOf ns (take c.len.result zones)) (sym c.in_ok-try_clone.ensures)
    (subst P (sym whole) (zones_are s.chunk scope 0 zones (subst (All (IsPartOf scope)) (sym c.self.view_is) c.requires)))

pub returns : goal.returns
returns c =
    let s = c.self.inside in
    let scope = c.args.scope.now in
    let zones = s.log.zones in
    let m = c.in_ok-map.map in
    let whole : take c.len.result zones ≡ zones = take_all c.len.result zones (omega (arith, c.len.ensures)) in
    let of : IsMapOf zones m = subst (λ (zs : List ZoneData). IsMapOf zs m) whole c.in_ok-map.ensures.is_map in
    subst (λ (ps : List PartData). IsMapOf (zones_of ps) m) c.self.view_is
    (all_map s.chunk m scope zones c.rows-rows.ensures.is_chunk (c.in_ok-map.ensures.scoped ∙ c.in_ok-try_clone.ensures) (subst (All (IsPartOf scope)) (sym c.self.view_is) c.requires) c.self.invariant of)
