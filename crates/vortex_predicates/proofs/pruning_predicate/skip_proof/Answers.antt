use Rattle.std.proofs.Common.{false, subst, true}
use Rattle.std.proofs.lemmas.Result.{err_from_is_err_and}
use Rattle.vortex_expr.specs.Trees.Tree.{Place, Tree}
use Rattle.vortex_normal.specs.Groups.{normal}
use Rattle.vortex_normal.specs.Strict.{strict_test}
use Rattle.vortex_predicates.specs.Pruning.{falsifying_causes}
use Rattle.vortex_rewrite.proofs.Rewriting.CauseLemmas.{either-left, either-right}
use Rattle.vortex_rewrite.specs.Causes.{IsRefusal, either_causes}
use Rattle.vortex_rewrite.specs.Rewriting.Own.{own_rules}
use Rattle.vortex_predicates.proofs.pruning_predicate.skip_proof.Goals as goal

pub returns-in_err-by_normal-clause-refusal : goal.returns-in_err-by_normal-clause-refusal
returns-in_err-by_normal-clause-refusal g c =
    let own = own_rules (λ b. (g.dyn-1.0.entry b.vtable).1) c.args.rules.now.own.items in
    let p = c.args.predicate.now in
    let q = err_from_is_err_and c.from_residual-in_err-by_normal.result c.from_residual-in_err-by_normal.ensures.1 in
    let rest = either_causes (falsifying_causes own (normal p)) (falsifying_causes own (strict_test true false p)) in
    rw (q.1, q.2)
    (either-right (falsifying_causes own p) rest c.in_err-by_normal.field-0.0
    (either-left (falsifying_causes own (normal p)) (falsifying_causes own (strict_test true false p)) c.in_err-by_normal.field-0.0
    (subst (λ (e : Tree Place). IsRefusal (falsifying_causes own e) c.in_err-by_normal.field-0.0) c.requires.normal c.in_err-by_normal.ensures.refusal)))
