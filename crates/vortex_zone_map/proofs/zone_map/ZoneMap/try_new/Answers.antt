use Rattle.std.proofs.Common.{◌≡◌, Bool, refl, subst, sym, ◌∙◌}
use Rattle.std.proofs.lemmas.Result.{IfErr-weaker, IfOk-weaker}
use Rattle.std.specs.Bool.{MatchBool}
use Rattle.vortex_zone_map.proofs.ZoneMaps.ZoneKept.{map_is_of, zones_are}
use Rattle.vortex_rewrite.specs.Answers.{IsMemory}
use Rattle.vortex_stats.specs.declared.error.StatsError.TheVariants.{Mismatch}
use Rattle.vortex_zone_map.proofs.zone_map.ZoneMap.try_new.Goals as goal

pub returns-then-not-zones_fit-clause-error : goal.returns-then-not-zones_fit-clause-error
returns-then-not-zones_fit-clause-error c = subst (λ (b : Bool). MatchBool b (IsMemory Mismatch) (Mismatch ≡ Mismatch)) c.if-not-zones_fit.ensures refl

pub map_of-requires : goal.map_of-requires
map_of-requires c = zones_are c.args.scope c.args.zones.now (sym c.zones_fit.ensures ∙ c.if-not-zones_fit.false)

pub returns-clause-is_map : goal.returns-clause-is_map
returns-clause-is_map c =
    IfOk-weaker c.map_of.result _ _ (λ m made. map_is_of m c.args.scope c.args.zones.now (zones_are c.args.scope c.args.zones.now (sym c.zones_fit.ensures ∙ c.if-not-zones_fit.false)) made) c.map_of.ensures.made

pub returns-clause-error : goal.returns-clause-error
returns-clause-error c =
    IfErr-weaker c.map_of.result _ _ (λ refused memory. subst (λ (b : Bool). MatchBool b (IsMemory refused.error) (refused.error ≡ Mismatch)) c.if-not-zones_fit.ensures memory) c.map_of.ensures.error
