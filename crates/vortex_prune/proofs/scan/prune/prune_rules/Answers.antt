use Rattle.std.proofs.Common.{ap, refl, ◌∙◌}
use Rattle.std.proofs.lemmas.Result.{IfOk-weaker}
use Rattle.vortex_prune.proofs.ZoneMaps.TrueRows.{found_by_rows}
use Rattle.vortex_prune.proofs.ZoneMaps.ZonePruned.{pruned_is_shut, skipped_listed, whole_listed}
use Rattle.vortex_prune.specs.Scanning.Selection.{is_skipped, is_whole, places_where}
use Rattle.vortex_rewrite.specs.Rewriting.Falsifiers.{falsifier, satisfier}
use Rattle.vortex_rewrite.specs.Rewriting.Own.{own_rules}
use Rattle.vortex_prune.proofs.scan.prune.prune_rules.Goals as goal

pub returns-clause-skipped : goal.returns-clause-skipped
returns-clause-skipped g c =
    let p = c.args.predicate.now in
    let own = own_rules (λ b. (g.dyn-1.0.entry b.vtable).1) c.args.rules.now.own.items in
    IfOk-weaker c.listed.result _ _
    (λ found is zones of. is ∙ ap (places_where is_skipped) (c.deref.ensures.value ∙ c.in_ok-verdicts.ensures.verdicts zones of) ∙ skipped_listed (falsifier own p) (satisfier own p) c.args.map.now.scope zones) c.listed.ensures.skipped

pub returns-clause-whole : goal.returns-clause-whole
returns-clause-whole g c =
    let p = c.args.predicate.now in
    let own = own_rules (λ b. (g.dyn-1.0.entry b.vtable).1) c.args.rules.now.own.items in
    IfOk-weaker c.listed.result _ _
    (λ found is zones of. is ∙ ap (places_where is_whole) (c.deref.ensures.value ∙ c.in_ok-verdicts.ensures.verdicts zones of) ∙ whole_listed (falsifier own p) (satisfier own p) c.args.map.now.scope zones) c.listed.ensures.whole

pub returns-clause-kept_closed : goal.returns-clause-kept_closed
returns-clause-kept_closed g c =
    let p = c.args.predicate.now in
    let own = own_rules (λ b. (g.dyn-1.0.entry b.vtable).1) c.args.rules.now.own.items in
    IfOk-weaker c.listed.result _ _
    (λ found is. pruned_is_shut (satisfier own p) c.args.map.now.rows c.in_ok-verdicts.verdicts.items found.skipped.items c.in_ok-verdicts.ensures.long (is ∙ ap (places_where is_skipped) c.deref.ensures.value) c.in_ok-verdicts.ensures.kept_closed)
    c.listed.ensures.skipped

pub returns-clause-rows_skipped : goal.returns-clause-rows_skipped
returns-clause-rows_skipped g c =
    let p = c.args.predicate.now in
    let m = c.args.map.now in
    let own = own_rules (λ b. (g.dyn-1.0.entry b.vtable).1) c.args.rules.now.own.items in
    let told = c.in_ok-verdicts.ensures in
    found_by_rows (λ vs ns. places_where is_skipped vs) (falsifier own p) (satisfier own p) m c.in_ok-verdicts.verdicts.items c.deref.result.now m.rows c.listed.result (λ found. found.skipped.items) c.deref.ensures.value told.rows told.long refl c.listed.ensures.skipped

pub returns-clause-rows_whole : goal.returns-clause-rows_whole
returns-clause-rows_whole g c =
    let p = c.args.predicate.now in
    let m = c.args.map.now in
    let own = own_rules (λ b. (g.dyn-1.0.entry b.vtable).1) c.args.rules.now.own.items in
    let told = c.in_ok-verdicts.ensures in
    found_by_rows (λ vs ns. places_where is_whole vs) (falsifier own p) (satisfier own p) m c.in_ok-verdicts.verdicts.items c.deref.result.now m.rows c.listed.result (λ found. found.whole.items) c.deref.ensures.value told.rows told.long refl c.listed.ensures.whole
