use Rattle.std.proofs.Common.{ap, refl, ◌∙◌}
use Rattle.std.proofs.lemmas.Result.{IfOk-weaker}
use Rattle.vortex_prune.proofs.Honesty.StatisticsBinders.{statistics_honest, by_statistics}
use Rattle.vortex_prune.proofs.Scanning.WholeScan.{kept_is_full, parts_by_recursion, skips_exactly}
use Rattle.vortex_prune.proofs.ZoneMaps.ZoneScan.{fits_each}
use Rattle.vortex_rewrite.specs.Rewriting.Own.{own_rules}
use Rattle.vortex_prune.specs.Part.{PartData}
use Rattle.vortex_prune.specs.Binding.PartAnswers.{part_values}
use Rattle.vortex_rewrite.specs.Rewriting.Falsifiers.{falsifier}
use Rattle.vortex_prune.specs.Scanning.Selection.{skipped_parts}
use Rattle.vortex_prune.specs.Scanning.ZoneScans.{statistics_answers}
use Rattle.vortex_prune.proofs.scan.zones.scan_zones.Goals as goal

pub returns-clause-selected : goal.returns-clause-selected
returns-clause-selected g c =
    let z = c.args.zones.now in
    IfOk-weaker c.scan_rules.result _ _
    (λ scan all are_true.
    all.found.kept
    ∙ kept_is_full (λ (part : PartData) row n. part_values part) (own_rules (λ b. (g.dyn-1.0.entry b.vtable).1) c.args.rules.now.own.items) c.args.predicate.now z.parts z.parts refl all.predicate c.requires.plain
    (fits_each c.args.predicate.now z.scope z.parts c.scan_rules.ensures.scoped c.requires.fits) c.scan_rules.ensures.parts (statistics_honest z.parts (parts_by_recursion z.parts c.scan_rules.ensures.parts) are_true))
    c.scan_rules.ensures.answered

pub returns-clause-skipped : goal.returns-clause-skipped
returns-clause-skipped g c = IfOk-weaker c.scan_rules.result _ _ (λ scan all. all.found.skipped) c.scan_rules.ensures.answered

pub returns-clause-complete : goal.returns-clause-complete
returns-clause-complete g c =
    let z = c.args.zones.now in
    IfOk-weaker c.scan_rules.result _ _
    (λ scan all none once.
    skips_exactly (λ (part : PartData) row n. part_values part) c.args.predicate.now z.parts z.parts scan.skipped.items refl all.predicate
    (fits_each c.args.predicate.now z.scope z.parts c.scan_rules.ensures.scoped c.requires.fits) c.scan_rules.ensures.parts (by_statistics z.parts) once
    (all.found.skipped ∙ ap (λ bs. skipped_parts (falsifier (own_rules (λ b. (g.dyn-1.0.entry b.vtable).1) bs) c.args.predicate.now) (statistics_answers z.parts)) none))
    c.scan_rules.ensures.answered
