use Rattle.std.proofs.Common.{◌≡◌, IfOk, Option, ap, subst, true, ◌∙◌}
use Rattle.std.proofs.lemmas.Bool.{true_from_ne_false}
use Rattle.std.proofs.lemmas.Result.{IfOk-weaker, err_from_is_err_and}
use Rattle.std.specs.Prelude.{option_copied}
use Rattle.vortex_expr.specs.Trees.Tree.{Place, Tree}
use Rattle.vortex_prune.proofs.Scanning.PartPromises.{err_same, no_longer, not_falsified, not_satisfied, refuses_by_binders}
use Rattle.vortex_prune.proofs.Scanning.ScanRefused.{by_binders, by_faithful}
use Rattle.vortex_prune.proofs.Scanning.WholeScan.{kept_is_full, skips_exactly}
use Rattle.vortex_prune.specs.Scanning.Promises.{ScansByBinders}
use Rattle.vortex_prune.specs.Scanning.Selection.{answered, skipped_parts}
use Rattle.vortex_rewrite.specs.Rewriting.Falsifiers.{falsifier, satisfier}
use Rattle.vortex_rewrite.specs.Rewriting.Own.{own_rules}
use Rattle.vortex_rewrite.specs.Rewriting.Predicates.{is_predicate}
use Rattle.vortex_prune.proofs.scan.scan.Goals as goal

pub returns-clause-answered : goal.returns-clause-answered
returns-clause-answered g c =
    let B = g.B.StatBinder in
    let p = c.args.predicate.now in
    let parts = c.args.parts.now in
    let binders = c.args.binders.now in
    let own = own_rules (λ b. (g.dyn-1.0.entry b.vtable).1) c.args.rules.now.own.items in
    subst (λ (o : Option (Tree Place)). IfOk c.scan_by.result (ScansByBinders B o (satisfier own p) p parts binders)) (c.as_ref.ensures.value ∙ c.in_ok-falsifier.ensures.answer)
    (subst (λ (o : Option (Tree Place)). IfOk c.scan_by.result (ScansByBinders B (option_copied c.as_ref.result) o p parts binders)) (c.as_ref-2.ensures.value ∙ c.in_ok-satisfier.ensures.answer) c.scan_by.ensures.answered)

pub returns-clause-skipped : goal.returns-clause-skipped
returns-clause-skipped g c = IfOk-weaker c.scan_by.result _ _ (λ scan all faithful. (all.found faithful).skipped) (returns-clause-answered g c)

pub returns-clause-selected : goal.returns-clause-selected
returns-clause-selected g c =
    let p = c.args.predicate.now in
    let own = own_rules (λ b. (g.dyn-1.0.entry b.vtable).1) c.args.rules.now.own.items in
    let predicate : is_predicate p ≡ true = true_from_ne_false (is_predicate p) (λ other. let k = c.in_ok-falsifier.ensures.not_predicate other in cc) in
    IfOk-weaker c.scan_by.result _ _
    (λ scan all faithful honest.
    (all.found faithful).kept ∙ kept_is_full g.B.StatBinder.value own p c.args.parts.now c.args.binders.now c.requires.binders predicate c.requires.plain c.requires.fits all.are_parts honest)
    (returns-clause-answered g c)

pub returns-clause-complete : goal.returns-clause-complete
returns-clause-complete g c =
    let p = c.args.predicate.now in
    let predicate : is_predicate p ≡ true = true_from_ne_false (is_predicate p) (λ other. let k = c.in_ok-falsifier.ensures.not_predicate other in cc) in
    let parts = c.args.parts.now in
    let binders = c.args.binders.now in
    IfOk-weaker c.scan_by.result _ _
    (λ scan all none faithful own once.
    skips_exactly g.B.StatBinder.value p parts binders scan.skipped.items c.requires.binders predicate c.requires.fits all.are_parts own once
    ((all.found faithful).skipped ∙ ap (λ bs. skipped_parts (falsifier (own_rules (λ b. (g.dyn-1.0.entry b.vtable).1) bs) p) (answered g.B.StatBinder.value parts binders)) none))
    (returns-clause-answered g c)

pub returns-clause-refused : goal.returns-clause-refused
returns-clause-refused g c =
    let B = g.B.StatBinder in
    let p = c.args.predicate.now in
    let parts = c.args.parts.now in
    let binders = c.args.binders.now in
    let own = own_rules (λ b. (g.dyn-1.0.entry b.vtable).1) c.args.rules.now.own.items in
    let predicate : is_predicate p ≡ true = true_from_ne_false (is_predicate p) (λ other. let k = c.in_ok-falsifier.ensures.not_predicate other in cc) in
    let f = option_copied c.as_ref.result in
    let s = option_copied c.as_ref-2.result in
    let same = c.as_ref.ensures.value ∙ c.in_ok-falsifier.ensures.answer in
    let also = c.as_ref-2.ensures.value ∙ c.in_ok-satisfier.ensures.answer in
    refuses_by_binders B own p parts binders c.scan_by.result (λ untrue. no_longer (is_predicate p) predicate untrue) (λ again. by_binders B.answer B.is_missing B.can_fault B.value parts binders p own f s c.scan_by.result same also c.scan_by.ensures.refusal)
    (λ again faithful. by_faithful B.answer B.is_missing B.can_fault B.value parts binders p own f s c.scan_by.result same also c.scan_by.ensures.faithful faithful)

pub returns-in_err-falsifier-clause-refused : goal.returns-in_err-falsifier-clause-refused
returns-in_err-falsifier-clause-refused g c =
    let q = err_from_is_err_and c.from_residual.result c.from_residual.ensures.1 in
    let own = own_rules (λ b. (g.dyn-1.0.entry b.vtable).1) c.args.rules.now.own.items in
    let told = c.in_err-falsifier.ensures in
    rw (q.1, q.2)
    (not_falsified g.B.StatBinder own c.args.predicate.now c.args.parts.now c.args.binders.now c.in_err-falsifier.field-0.0 (λ other. err_same (told.not_predicate other)) told.refusal)

pub returns-in_err-satisfier-clause-refused : goal.returns-in_err-satisfier-clause-refused
returns-in_err-satisfier-clause-refused g c =
    let q = err_from_is_err_and c.from_residual-in_err-satisfier.result c.from_residual-in_err-satisfier.ensures.1 in
    let own = own_rules (λ b. (g.dyn-1.0.entry b.vtable).1) c.args.rules.now.own.items in
    let told = c.in_err-satisfier.ensures in
    rw (q.1, q.2)
    (not_satisfied g.B.StatBinder own c.args.predicate.now c.args.parts.now c.args.binders.now c.in_err-satisfier.field-0.0 (λ other. err_same (told.not_predicate other)) told.refusal)
