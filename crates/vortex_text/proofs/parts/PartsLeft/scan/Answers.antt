use Rattle.std.proofs.Common.{◌≡◌, List, IsTrue, ap, drop, map, subst, sym, take, ◌∙◌, arith}
use Rattle.vortex_base.specs.Data.Scopes.{Named}
use Rattle.vortex_expr.specs.Meanings.Fitting.{fits_scope}
use Rattle.vortex_prune.specs.Part.{PartData}
use Rattle.vortex_zone_map.specs.Zone.{AreZonesOf}
use Rattle.vortex_text.proofs.LeftLemmas.{found_by, left_first, left_long, left_scope, left_within, left_zones, ranges_of_map, ranges_there}
use Rattle.vortex_text.proofs.QueryLemmas.{not_memory}
use Rattle.vortex_text.specs.Batches.{IsFoundIn}
use Rattle.vortex_text.proofs.parts.PartsLeft.scan.Goals as goal

pub map-requires-clause-within : goal.map-requires-clause-within
map-requires-clause-within c =
    let s = c.self.inside in
    omega (arith, c.requires.within, c.self.invariant.there, left_long s.chunk.now s.log.now.zones s.place s.row c.args.self.now c.self.view_is)

pub map-requires-clause-fits : goal.map-requires-clause-fits
map-requires-clause-fits c =
    let s = c.self.inside in
    subst (λ (ns : List Named). AreZonesOf ns (take c.args.count (drop s.place s.log.now.zones))) (sym c.in_ok-try_clone.ensures)
    (left_zones s.chunk.now s.log.now.zones s.place s.row c.args.self.now c.self.view_is c.args.scope.now c.args.count c.requires.query.are_parts)

pub scan_ranges_from-requires-clause-fits : goal.scan_ranges_from-requires-clause-fits
scan_ranges_from-requires-clause-fits c =
    let s = c.self.inside in
    let same : s.chunk.now.scope ≡ c.args.scope.now = left_scope s.chunk.now s.log.now.zones s.place s.row c.args.self.now c.self.view_is c.args.scope.now (omega (arith, c.requires.some, c.requires.within)) c.requires.query.are_parts in
    subst (λ (ns : List Named). IsTrue (fits_scope c.args.predicate.now ns)) (sym same) c.requires.query.is_predicate.fits

pub returns-in-Ok : goal.returns-in-Ok
returns-in-Ok c =
    let s = c.self.inside in
    let k = s.chunk.now in
    let all = s.log.now.zones in
    let p = c.args.predicate.now in
    let m = c.in_ok-map.map in
    let zones = take c.args.count (drop s.place all) in
    let scope = left_scope k all s.place s.row c.args.self.now c.self.view_is c.args.scope.now (omega (arith, c.requires.some, c.requires.within)) c.requires.query.are_parts in
    let same : k.scope ≡ m.scope = scope ∙ sym (c.in_ok-map.ensures.scoped ∙ c.in_ok-try_clone.ensures) in
    let within = left_within k all s.place s.row c.args.self.now c.self.view_is c.args.count c.self.invariant.within in
    let are = ranges_there p k s.row m zones c.in-Ok.found c.rows-rows.ensures.is_chunk same c.in_ok-map.ensures.is_map within in
    subst (λ (ps : List PartData). IsFoundIn p ps c.in-Ok.found) (left_first k all s.place s.row c.args.self.now c.self.view_is c.args.count)
    (found_by p k s.row m zones c.in-Ok.found c.rows-rows.ensures.is_chunk same c.in_ok-map.ensures.is_map within
    (rw c.builtin-rules.ensures at (c.in-Ok.ensures.answered.skipped zones c.in_ok-map.ensures.is_map))
    (rw c.builtin-rules.ensures at (c.in-Ok.ensures.answered.whole zones c.in_ok-map.ensures.is_map))
    (rw c.builtin-rules.ensures at (c.in-Ok.ensures.answered.parted _ are))
    (c.in-Ok.ensures.full _ are))

pub unreachable-requires : goal.unreachable-requires
unreachable-requires c =
    let s = c.self.inside in
    let k = s.chunk.now in
    let all = s.log.now.zones in
    let m = c.in_ok-map.map in
    let zones = take c.args.count (drop s.place all) in
    let scope = left_scope k all s.place s.row c.args.self.now c.self.view_is c.args.scope.now (omega (arith, c.requires.some, c.requires.within)) c.requires.query.are_parts in
    let same : k.scope ≡ m.scope = scope ∙ sym (c.in_ok-map.ensures.scoped ∙ c.in_ok-try_clone.ensures) in
    let within = left_within k all s.place s.row c.args.self.now c.self.view_is c.args.count c.self.invariant.within in
    not_memory c.in-Err.fault (c.in-Err.ensures.refused.memory (ranges_of_map k s.row m zones same c.in_ok-map.ensures.is_map within) c.requires.predicate (ap (map _) c.builtin-rules.ensures)) c.in_default.not-Memory
