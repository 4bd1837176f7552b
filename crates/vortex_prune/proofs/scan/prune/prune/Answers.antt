use Rattle.std.proofs.Common.{ap, map, refl, ◌∙◌}
use Rattle.vortex_prune.proofs.Scanning.WholeScan.{of_two}
use Rattle.vortex_prune.proofs.ZoneMaps.TrueRows.{skipped_rows_sound, whole_rows_sound}
use Rattle.vortex_prune.proofs.ZoneMaps.ZonePruned.{of_three, pruning_is_complete, pruning_is_sound}
use Rattle.vortex_prune.proofs.ZoneMaps.ZoneRefusals.{most_refused_for_memory}
use Rattle.vortex_prune.specs.Scanning.ZoneScans.{skipped_zones}
use Rattle.vortex_rewrite.specs.Rewriting.Falsifiers.{falsifier, satisfier}
use Rattle.vortex_rewrite.specs.Rewriting.Own.{own_rule, own_rules}
use Rattle.vortex_prune.proofs.scan.prune.prune.Goals as goal

pub returns-clause-sound : goal.returns-clause-sound
returns-clause-sound g c =
    let m = c.args.map.now in
    of_three c.prune_rules.result _ _ _ _
    (λ found skipped whole predicate zones of.
    pruning_is_sound (own_rules (λ b. (g.dyn-1.0.entry b.vtable).1) c.args.rules.now.own.items) c.args.predicate.now m.scope zones found.skipped.items found.whole.items predicate c.requires.plain c.requires.fits (skipped zones of) (whole zones of))
    c.prune_rules.ensures.skipped c.prune_rules.ensures.whole c.prune_rules.ensures.predicate

pub returns-clause-complete : goal.returns-clause-complete
returns-clause-complete g c =
    let m = c.args.map.now in
    of_two c.prune_rules.result _ _ _
    (λ found skipped predicate zones of none once.
    pruning_is_complete c.args.predicate.now m.scope zones found.skipped.items predicate c.requires.fits of.are_zones once
    (skipped zones of ∙ ap (λ bs. skipped_zones (falsifier (own_rules (λ b. (g.dyn-1.0.entry b.vtable).1) bs) c.args.predicate.now) m.scope zones) none))
    c.prune_rules.ensures.skipped c.prune_rules.ensures.predicate

pub returns-clause-memory : goal.returns-clause-memory
returns-clause-memory g c = λ predicate none.
    most_refused_for_memory (own_rules (λ b. (g.dyn-1.0.entry b.vtable).1) c.args.rules.now.own.items) c.args.predicate.now c.args.map.now.rows c.prune_rules.result (ap (map (own_rule (λ b. (g.dyn-1.0.entry b.vtable).1))) none)
    (c.prune_rules.ensures.at_most predicate)

pub returns-clause-skipped_sound : goal.returns-clause-skipped_sound
returns-clause-skipped_sound g c =
    let p = c.args.predicate.now in
    let own = own_rules (λ b. (g.dyn-1.0.entry b.vtable).1) c.args.rules.now.own.items in
    of_two c.prune_rules.result _ _ _
    (λ found is predicate. skipped_rows_sound own p c.args.map.now c.has_table.ensures predicate c.requires.plain c.requires.fits (falsifier own p) (satisfier own p) found.skipped.items is refl)
    c.prune_rules.ensures.rows_skipped c.prune_rules.ensures.predicate

pub returns-clause-whole_sound : goal.returns-clause-whole_sound
returns-clause-whole_sound g c =
    let p = c.args.predicate.now in
    let own = own_rules (λ b. (g.dyn-1.0.entry b.vtable).1) c.args.rules.now.own.items in
    of_two c.prune_rules.result _ _ _
    (λ found is predicate. whole_rows_sound own p c.args.map.now c.has_table.ensures predicate c.requires.plain c.requires.fits (falsifier own p) (satisfier own p) found.whole.items is refl)
    c.prune_rules.ensures.rows_whole c.prune_rules.ensures.predicate
