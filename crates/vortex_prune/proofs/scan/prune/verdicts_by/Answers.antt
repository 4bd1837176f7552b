use Rattle.std.proofs.Common.{length, sym, ◌≡◌, ◌∙◌, ap}
use Rattle.std.specs.Prelude.{option_copied}
use Rattle.std.proofs.lemmas.Result.{err_from_is_err_and}
use Rattle.vortex_prune.proofs.ZoneMaps.ZoneVerdicts.{length-verdicts, others_long, satisfier_refused, told_long, verdicts_told}
use Rattle.vortex_prune.proofs.scan.prune.verdicts_by.Goals as goal

pub bound_rest-requires : goal.bound_rest-requires
bound_rest-requires c =
    let long : length c.deref.result.now ≡ length c.args.map.now.rows = c.deref.ensures.len ∙ c.in_ok-all.ensures.len ∙ c.len.ensures in
    ap length c.deref-2.ensures.value ∙ told_long (option_copied c.args.falsifier) c.args.map.now c.deref.result.now c.in_ok-skipped.skipped.items c.in_ok-skipped.ensures long

pub returns-in_err-bound-clause-refusal : goal.returns-in_err-bound-clause-refusal
returns-in_err-bound-clause-refusal c =
    let q = err_from_is_err_and c.from_residual-in_err-bound.result c.from_residual-in_err-bound.ensures.1 in
    let m = c.args.map.now in
    let f = option_copied c.args.falsifier in
    let long : length c.deref.result.now ≡ length m.rows = c.deref.ensures.len ∙ c.in_ok-all.ensures.len ∙ c.len.ensures in
    let skipped = told_long f m c.deref.result.now c.in_ok-skipped.skipped.items c.in_ok-skipped.ensures long in
    rw (q.1, q.2)
    (satisfier_refused f (option_copied c.args.satisfier) m c.len.result c.in_ok-all.all.items c.in_ok-skipped.skipped.items c.deref.result.now c.deref-2.result.now c.in_err-bound.field-0.0
    c.deref.ensures.value (c.in_ok-all.ensures.items_if_clones_equal (λ y e. e)) c.in_ok-skipped.ensures c.deref-2.ensures.value skipped c.in_err-bound.ensures.refusal.0 c.in_err-bound.ensures.refusal.1)

pub zones_passing-requires-2 : goal.zones_passing-requires-2
zones_passing-requires-2 c =
    let m = c.args.map.now in
    let long : length c.deref.result.now ≡ length m.rows = c.deref.ensures.len ∙ c.in_ok-all.ensures.len ∙ c.len.ensures in
    let skipped = told_long (option_copied c.args.falsifier) m c.deref.result.now c.in_ok-skipped.skipped.items c.in_ok-skipped.ensures long in
    others_long c.in_ok-skipped.skipped.items c.deref-3.result.now c.in_ok-others.others.items c.deref-4.result.now (length m.rows) c.deref-3.ensures.value c.in_ok-others.ensures c.deref-4.ensures.value skipped

pub marked_verdicts-requires : goal.marked_verdicts-requires
marked_verdicts-requires c =
    let m = c.args.map.now in
    let long : length c.deref.result.now ≡ length m.rows = c.deref.ensures.len ∙ c.in_ok-all.ensures.len ∙ c.len.ensures in
    let skipped = told_long (option_copied c.args.falsifier) m c.deref.result.now c.in_ok-skipped.skipped.items c.in_ok-skipped.ensures long in
    let others = others_long c.in_ok-skipped.skipped.items c.deref-3.result.now c.in_ok-others.others.items c.deref-4.result.now (length m.rows) c.deref-3.ensures.value c.in_ok-others.ensures c.deref-4.ensures.value skipped in
    let whole = told_long (option_copied c.as_ref.result) m c.deref-4.result.now c.in_ok-whole.whole.items c.in_ok-whole.ensures others in
    ap length c.deref-5.ensures.value ∙ skipped ∙ sym (ap length c.deref-6.ensures.value ∙ whole)

pub returns-clause-long : goal.returns-clause-long
returns-clause-long c =
    let m = c.args.map.now in
    let long : length c.deref.result.now ≡ length m.rows = c.deref.ensures.len ∙ c.in_ok-all.ensures.len ∙ c.len.ensures in
    let skipped = told_long (option_copied c.args.falsifier) m c.deref.result.now c.in_ok-skipped.skipped.items c.in_ok-skipped.ensures long in
    let others = others_long c.in_ok-skipped.skipped.items c.deref-3.result.now c.in_ok-others.others.items c.deref-4.result.now (length m.rows) c.deref-3.ensures.value c.in_ok-others.ensures c.deref-4.ensures.value skipped in
    let whole = told_long (option_copied c.as_ref.result) m c.deref-4.result.now c.in_ok-whole.whole.items c.in_ok-whole.ensures others in
    let first = ap length c.deref-5.ensures.value ∙ skipped in
    ap length c.in_ok-marked_verdicts.ensures ∙ length-verdicts c.deref-5.result.now c.deref-6.result.now (first ∙ sym (ap length c.deref-6.ensures.value ∙ whole)) ∙ first

pub returns-clause-told : goal.returns-clause-told
returns-clause-told c =
    verdicts_told (option_copied c.args.falsifier) (option_copied c.args.satisfier) c.in_ok-bound.bound (option_copied c.as_ref.result) c.args.map.now c.len.result
    c.in_ok-all.all.items c.in_ok-skipped.skipped.items c.in_ok-others.others.items c.in_ok-whole.whole.items
    c.deref.result.now c.deref-2.result.now c.deref-3.result.now c.deref-4.result.now c.deref-5.result.now c.deref-6.result.now c.in_ok-marked_verdicts.field-0.items
    c.deref.ensures.value (c.in_ok-all.ensures.items_if_clones_equal (λ y e. e)) c.in_ok-skipped.ensures
    c.deref-2.ensures.value c.in_ok-bound.ensures.tells c.in_ok-bound.ensures.shut c.deref-3.ensures.value c.in_ok-others.ensures c.as_ref.ensures.value c.deref-4.ensures.value c.in_ok-whole.ensures
    c.deref-5.ensures.value c.deref-6.ensures.value c.in_ok-marked_verdicts.ensures
