use Rattle.std.proofs.Common.{ap, length, sym, ◌∙◌}
use Rattle.std.proofs.lemmas.Result.{IfOk-weaker, err_from_is_err_and}
use Rattle.vortex_expr.specs.Meanings.Fitting.{fits_scope}
use Rattle.vortex_prune.proofs.Scanning.PartPromises.{err_same}
use Rattle.vortex_prune.proofs.Scanning.RangeParts.{kept_by, ranges_are_full, same_scope_from}
use Rattle.vortex_prune.proofs.Scanning.RangePromises.{by_verdicts, no_ranges, no_verdicts, of_four, scans_ranges}
use Rattle.vortex_prune.proofs.ZoneMaps.ZonePruned.{pruning_is_complete, skipped_listed}
use Rattle.vortex_prune.specs.Scanning.Found.{found_in}
use Rattle.vortex_prune.specs.Scanning.Selection.{is_skipped, places_where}
use Rattle.vortex_prune.specs.Scanning.ZoneScans.{skipped_zones}
use Rattle.vortex_prune.specs.Zones.{zones_of}
use Rattle.vortex_rewrite.specs.Rewriting.Falsifiers.{falsifier, satisfier}
use Rattle.vortex_rewrite.specs.Rewriting.Own.{own_rules}
use Rattle.vortex_prune.proofs.scan.ranges.scan_ranges_from.Goals as goal

pub scan_counts-requires-clause-long : goal.scan_counts-requires-clause-long
scan_counts-requires-clause-long g c = ap length c.deref.ensures.value ∙ c.in_ok-verdicts.ensures.long ∙ ap length (sym c.counts.ensures)

pub returns-clause-full : goal.returns-clause-full
returns-clause-full g c =
    let k = c.args.chunk.now in
    let m = c.args.map.now in
    let p = c.args.predicate.now in
    let own = own_rules (λ b. (g.dyn-1.0.entry b.vtable).1) c.args.rules.now.own.items in
    let same = same_scope_from k c.args.first m (sym c.has_ranges_from.ensures ∙ c.if-not-has_ranges_from.false) in
    IfOk-weaker c.scan_counts.result _ _
    (λ scan is parts are are_true.
    kept_by (falsifier own p) (satisfier own p) p k c.args.first m (zones_of parts) _ _ _ are.is_map (c.deref.ensures.value ∙ c.in_ok-verdicts.ensures.verdicts (zones_of parts) are.is_map) c.counts.ensures is
    ∙ ranges_are_full own p k c.args.first m parts c.in_ok-verdicts.ensures.predicate c.requires.plain c.requires.fits same are are_true)
    c.scan_counts.ensures.selected

pub returns-clause-complete : goal.returns-clause-complete
returns-clause-complete g c =
    let m = c.args.map.now in
    let p = c.args.predicate.now in
    let own = own_rules (λ b. (g.dyn-1.0.entry b.vtable).1) c.args.rules.now.own.items in
    let same = same_scope_from c.args.chunk.now c.args.first m (sym c.has_ranges_from.ensures ∙ c.if-not-has_ranges_from.false) in
    let fits = ap (fits_scope p) (sym same) ∙ c.requires.fits in
    IfOk-weaker c.scan_counts.result _ _
    (λ scan is zones of none once.
    pruning_is_complete p m.scope zones scan.skipped.items c.in_ok-verdicts.ensures.predicate fits of.are_zones once
    (is ∙ ap (places_where is_skipped) (c.deref.ensures.value ∙ c.in_ok-verdicts.ensures.verdicts zones of) ∙ skipped_listed (falsifier own p) (satisfier own p) m.scope zones
    ∙ ap (λ bs. skipped_zones (falsifier (own_rules (λ b. (g.dyn-1.0.entry b.vtable).1) bs) p) m.scope zones) none))
    c.scan_counts.ensures.skipped

pub returns-clause-answered : goal.returns-clause-answered
returns-clause-answered g c =
    let m = c.args.map.now in
    let own = own_rules (λ b. (g.dyn-1.0.entry b.vtable).1) c.args.rules.now.own.items in
    let told = c.in_ok-verdicts.ensures in
    let has = sym c.has_ranges_from.ensures ∙ c.if-not-has_ranges_from.false in
    of_four c.scan_counts.result _ _ _ _ _
    (λ scan skipped whole selected evaluated.
    scans_ranges own c.args.predicate.now c.args.chunk.now c.args.first m c.has_table.ensures c.requires.plain c.requires.fits has c.in_ok-verdicts.verdicts.items told.rows told.verdicts told.long told.predicate told.closed told.kept_closed
    c.deref.result.now c.counts.result.now (found_in scan) c.deref.ensures.value c.counts.ensures skipped whole selected evaluated)
    c.scan_counts.ensures.skipped c.scan_counts.ensures.whole c.scan_counts.ensures.selected c.scan_counts.ensures.evaluated

pub returns-clause-refused : goal.returns-clause-refused
returns-clause-refused g c =
    by_verdicts (own_rules (λ b. (g.dyn-1.0.entry b.vtable).1) c.args.rules.now.own.items) c.args.predicate.now c.args.map.now _ c.scan_counts.result (sym c.has_ranges_from.ensures ∙ c.if-not-has_ranges_from.false) c.in_ok-verdicts.ensures.predicate
    c.scan_counts.ensures.memory

pub returns-in_err-verdicts-clause-refused : goal.returns-in_err-verdicts-clause-refused
returns-in_err-verdicts-clause-refused g c =
    let q = err_from_is_err_and c.from_residual.result c.from_residual.ensures.1 in
    let own = own_rules (λ b. (g.dyn-1.0.entry b.vtable).1) c.args.rules.now.own.items in
    let told = c.in_err-verdicts.ensures in
    rw (q.1, q.2)
    (no_verdicts own c.args.predicate.now c.args.map.now _ c.in_err-verdicts.field-0.0 (sym c.has_ranges_from.ensures ∙ c.if-not-has_ranges_from.false) (λ other. err_same (told.not_predicate other)) told.refusal told.at_most)

pub returns-then-not-has_ranges_from-clause-refused : goal.returns-then-not-has_ranges_from-clause-refused
returns-then-not-has_ranges_from-clause-refused g c =
    no_ranges (own_rules (λ b. (g.dyn-1.0.entry b.vtable).1) c.args.rules.now.own.items) c.args.predicate.now c.args.map.now _ (sym c.has_ranges_from.ensures ∙ c.if-not-has_ranges_from.true)
