use Rattle.std.proofs.Common.{ap, map, subst, sym, ◌∙◌}
use Rattle.std.specs.Prelude.{IsTrue}
use Rattle.vortex_zone_map.specs.Zone.{zones_fit}
use Rattle.vortex_zone_map.specs.ZoneMaps.{heads}
use Rattle.vortex_capi.specs.NamedStats.{names_head}
use Rattle.vortex_capi.specs.Prunes.{answer_by}
use Rattle.vortex_capi.proofs.BatchLemmas.{zones_of_batch}
use Rattle.vortex_capi.proofs.NamedLemmas.{named_answers}
use Rattle.vortex_capi.proofs.batches.Batch.answers.Goals as goal

pub returns-in-Ok : goal.returns-in-Ok
returns-in-Ok c = λ zones found.
    let b = c.args.self.now in
    let f = c.args.proofs.now.falsifier in
    let t = c.args.proofs.now.satisfier in
    let m = c.in_ok-map.map in
    let scoped = c.in_ok-map.ensures.scoped in
    let fit = subst (λ s. IsTrue (zones_fit s zones)) (sym scoped) (zones_of_batch b c.requires.batch zones found) in
    let named = c.requires.named ∙ ap (map (names_head f t)) (c.requires.lookups.heads ∙ ap heads (sym scoped)) in
    named_answers f t m zones c.args.lookups.now.named.items named (c.in_ok-map.ensures.has zones found) fit c.in-Ok.answers.items c.in-Ok.ensures.rows
    ∙ ap (λ s. map (answer_by f t s) zones) scoped
