use Rattle.std.proofs.Common.{Option, ap, ap₂, map, subst₂, ◌∙◌}
use Rattle.std.proofs.lemmas.Result.{err_from_is_err_and}
use Rattle.vortex_expr.specs.Trees.Tree.{Place, Tree}
use Rattle.vortex_predicates.proofs.Found.{memory_left}
use Rattle.vortex_prune.specs.Scanning.ZoneScans.{AreRowVerdicts, open_causes, zone_verdicts}
use Rattle.vortex_rewrite.specs.Causes.{IsRefusal, either_causes}
use Rattle.vortex_capi.specs.Prunes.{answer_of}
use Rattle.vortex_capi.proofs.AnswerLemmas.{verdicts_answered}
use Rattle.vortex_capi.proofs.named.map_answers.Goals as goal

pub returns-in_err-verdicts-clause-memory : goal.returns-in_err-verdicts-clause-memory
returns-in_err-verdicts-clause-memory c =
    let q = err_from_is_err_and c.from_residual.result c.from_residual.ensures.1 in
    let x = c.args.proofs.now in
    let rows = c.args.map.now.rows in
    rw (q.1, q.2)
    (memory_left x.falsifier x.satisfier rows rows c.in_err-verdicts.field-0.0 c.requires.falsifies c.requires.satisfies
    (subst₂ (λ (f s : Option (Tree Place)). IsRefusal (either_causes (open_causes f rows) (open_causes s rows)) c.in_err-verdicts.field-0.0) c.falsifier.ensures c.satisfier.ensures c.in_err-verdicts.ensures.at_most))

pub returns-clause-rows : goal.returns-clause-rows
returns-clause-rows c = record {
  verdicts = c.in_ok-verdicts.verdicts.items;
  rows = subst₂ (λ (f s : Option (Tree Place)). AreRowVerdicts f s c.args.map.now c.in_ok-verdicts.verdicts.items) c.falsifier.ensures c.satisfier.ensures c.in_ok-verdicts.ensures.rows;
  long = c.in_ok-verdicts.ensures.long;
  told = c.in_ok-answers_of.ensures ∙ ap (map answer_of) c.deref.ensures.value;
}

pub returns-clause-told : goal.returns-clause-told
returns-clause-told c = λ zones of.
    let x = c.args.proofs.now in
    let scope = c.args.map.now.scope in
    c.in_ok-answers_of.ensures
    ∙ ap (map answer_of) (c.deref.ensures.value ∙ c.in_ok-verdicts.ensures.verdicts zones of
    ∙ ap₂ (λ (f s : Option (Tree Place)). zone_verdicts f s scope zones) c.falsifier.ensures c.satisfier.ensures)
    ∙ verdicts_answered x.falsifier x.satisfier scope zones
