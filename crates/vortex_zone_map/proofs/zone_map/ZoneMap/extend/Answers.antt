use Rattle.std.proofs.Common.{◌≡◌, Bool, ap, subst, sym, ◌∙◌}
use Rattle.std.proofs.lemmas.Result.{IfErr-weaker, IfOk-weaker}
use Rattle.std.specs.Bool.{MatchBool}
use Rattle.vortex_zone_map.proofs.ZoneMaps.ZoneKept.{map_is_of, zones_are}
use Rattle.vortex_zone_map.specs.Zone.{zones_fit}
use Rattle.vortex_zone_map.specs.ZoneMaps.{MapData, appended_map, zone_map}
use Rattle.vortex_rewrite.specs.Answers.{IsMemory}
use Rattle.vortex_stats.specs.declared.error.StatsError.TheVariants.{Mismatch}
use Rattle.vortex_zone_map.proofs.zone_map.ZoneMap.extend.Goals as goal

pub map_of-requires : goal.map_of-requires
map_of-requires c = zones_are c.in_ok-scope.scope c.args.zones.now (ap (λ s. zones_fit s c.args.zones.now) c.in_ok-scope.ensures ∙ sym c.zones_fit.ensures ∙ c.if-not-zones_fit.false)

pub returns-in-Ok-clause-is_map : goal.returns-in-Ok-clause-is_map
returns-in-Ok-clause-is_map c =
    let zones = c.args.zones.now in
    let are = zones_are c.in_ok-scope.scope zones (ap (λ s. zones_fit s zones) c.in_ok-scope.ensures ∙ sym c.zones_fit.ensures ∙ c.if-not-zones_fit.false) in
    IfOk-weaker c.append.result _ _ (λ u all known is. all known zones is (map_is_of c.in-Ok.more c.in_ok-scope.scope zones are c.in-Ok.ensures.made)) c.append.ensures.is_map

pub returns-in-Ok-clause-appended : goal.returns-in-Ok-clause-appended
returns-in-Ok-clause-appended c =
    let zones = c.args.zones.now in
    let scope = c.in_ok-scope.ensures ∙ ap (λ (m : MapData). m.scope) c.self.view_is in
    IfOk-weaker c.append.result _ _ (λ u all. all ∙ ap (appended_map c.args.self.now) (c.in-Ok.ensures.made ∙ ap (λ s. zone_map s zones) scope)) c.append.ensures.appended

pub returns-in-Ok-clause-fits : goal.returns-in-Ok-clause-fits
returns-in-Ok-clause-fits c =
    IfOk-weaker c.append.result _ _
    (λ u all. ap (λ (m : MapData). zones_fit m.scope c.args.zones.now) (sym c.self.view_is) ∙ sym c.zones_fit.ensures ∙ c.if-not-zones_fit.false) c.append.ensures.appended

pub returns-in-Ok-clause-refused : goal.returns-in-Ok-clause-refused
returns-in-Ok-clause-refused c = IfErr-weaker c.append.result _ _ (λ f both. both.0) c.append.ensures.refused

pub returns-in-Ok-clause-error : goal.returns-in-Ok-clause-error
returns-in-Ok-clause-error c =
    let fits = sym c.if-not-zones_fit.false ∙ c.zones_fit.ensures ∙ ap (λ (m : MapData). zones_fit m.scope c.args.zones.now) c.self.view_is in
    IfErr-weaker c.append.result _ _ (λ f memory. subst (λ (b : Bool). MatchBool b (IsMemory f) (f ≡ Mismatch)) fits memory) c.append.ensures.memory
