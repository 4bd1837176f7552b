use Rattle.std.proofs.Common.{◌≡◌, length, subst, sym, ◌∙◌}
use Rattle.std.specs.Prelude.{IfOk}
use Rattle.vortex_capi.specs.Prunes.{IsComplete, IsNoFewer, IsSound, asked}
use Rattle.vortex_capi.proofs.PruneLemmas.{asked_complete, asked_no_fewer, asked_sound, not_zero, refused_pruning}
use Rattle.vortex_capi.proofs.prune.prune.Goals as goal

pub returns-in-Ok-clause-sound : goal.returns-in-Ok-clause-sound
returns-in-Ok-clause-sound c = λ _.
    let all = asked c.args.scope.now c.args.rows.now c.args.stats.now c.args.predicate.now c.args.flags (length c.args.answers.now) in
    let same : c.copy_from_slice.new.self ≡ c.in-Ok.found.items = c.copy_from_slice.ensures.after ∙ c.deref.ensures.value in
    subst (λ l. IfOk all (IsSound l)) (sym same) (asked_sound all c.in-Ok.found.items c.in-Ok.ensures.read c.in-Ok.ensures.well)

pub returns-in-Ok-clause-no_fewer : goal.returns-in-Ok-clause-no_fewer
returns-in-Ok-clause-no_fewer c = λ _.
    let all = asked c.args.scope.now c.args.rows.now c.args.stats.now c.args.predicate.now c.args.flags (length c.args.answers.now) in
    let same : c.copy_from_slice.new.self ≡ c.in-Ok.found.items = c.copy_from_slice.ensures.after ∙ c.deref.ensures.value in
    subst (λ l. IfOk all (IsNoFewer l)) (sym same) (asked_no_fewer all c.in-Ok.found.items c.in-Ok.ensures.read c.in-Ok.ensures.well)

pub returns-in-Ok-clause-complete : goal.returns-in-Ok-clause-complete
returns-in-Ok-clause-complete c = λ _.
    let all = asked c.args.scope.now c.args.rows.now c.args.stats.now c.args.predicate.now c.args.flags (length c.args.answers.now) in
    let same : c.copy_from_slice.new.self ≡ c.in-Ok.found.items = c.copy_from_slice.ensures.after ∙ c.deref.ensures.value in
    subst (λ l. IfOk all (IsComplete l)) (sym same) (asked_complete all c.in-Ok.found.items c.in-Ok.ensures.read c.in-Ok.ensures.well)

pub returns-in-Err-clause-answers : goal.returns-in-Err-clause-answers
returns-in-Err-clause-answers c =
    refused_pruning (asked c.args.scope.now c.args.rows.now c.args.stats.now c.args.predicate.now c.args.flags (length c.args.answers.now)) c.args.answers.now c.in-Err.refusal c.number.result c.number.ensures c.in-Err.ensures.read

pub returns-in-Err-clause-told : goal.returns-in-Err-clause-told
returns-in-Err-clause-told c = λ zero. absurd (not_zero c.in-Err.refusal.status (sym c.number.ensures ∙ zero))
