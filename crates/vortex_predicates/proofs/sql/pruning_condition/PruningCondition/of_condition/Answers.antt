use Rattle.std.proofs.Common.{map, ap, subst}
use Rattle.std.proofs.lemmas.Result.{err_from_is_err_and}
use Rattle.vortex_rewrite.specs.Rewriting.Own.{own_rule, own_rules}
use Rattle.vortex_sql.proofs.Widened.{columns_behind}
use Rattle.vortex_sql.specs.Lowering.{Says}
use Rattle.vortex_sql.specs.declared.syntax.tree.Condition.{Condition}
use Rattle.vortex_predicates.proofs.Conditions.Pruned.{closed_by, confirms_of, of_bool, proofs_of, refutes_of, says_of}
use Rattle.vortex_predicates.specs.Conditions.Conditions.{Confirms, Refutes}
use Rattle.vortex_predicates.proofs.sql.pruning_condition.PruningCondition.of_condition.Goals as goal

pub invariant_of-result : goal.invariant_of-result
invariant_of-result g c =
    let sql = c.in_ok-sql.sql in
    let x = c.in_ok-proofs.proofs in
    let h = c.in_ok-sql.ensures in
    let k = c.in_ok-proofs.ensures in (
      proofs_of c.proofs_tell_of_conditions.ensures c.args.schema sql.scope sql.condition sql.predicate sql.opaque.items x c.len-columns.ensures.is_scope (columns_behind c.args.text.now c.args.schema.scope sql.opaque.items sql.scope h.scope) h.opaque h.says h.fits k.predicate k.right,
      h.opaque,
    )

pub returns-clause-refutes : goal.returns-clause-refutes
returns-clause-refutes g c =
    let sql = c.in_ok-sql.sql in
    let x = c.in_ok-proofs.proofs in
    let h = c.in_ok-sql.ensures in
    let k = c.in_ok-proofs.ensures in
    subst (λ (d : Condition). Refutes c.args.schema d x.falsifier) h.same
    (refutes_of c.proofs_tell_of_conditions.ensures c.args.schema sql.scope sql.condition sql.predicate sql.opaque.items x c.len-columns.ensures.is_scope (columns_behind c.args.text.now c.args.schema.scope sql.opaque.items sql.scope h.scope) h.opaque h.says h.fits k.predicate k.right)

pub returns-clause-confirms : goal.returns-clause-confirms
returns-clause-confirms g c =
    let sql = c.in_ok-sql.sql in
    let x = c.in_ok-proofs.proofs in
    let h = c.in_ok-sql.ensures in
    let k = c.in_ok-proofs.ensures in
    subst (λ (d : Condition). Confirms c.args.schema d x.satisfier) h.same
    (confirms_of c.proofs_tell_of_conditions.ensures c.args.schema sql.scope sql.condition sql.predicate sql.opaque.items x c.len-columns.ensures.is_scope (columns_behind c.args.text.now c.args.schema.scope sql.opaque.items sql.scope h.scope) h.opaque h.says h.fits k.predicate k.right)

pub returns-clause-says : goal.returns-clause-says
returns-clause-says g c =
    let sql = c.in_ok-sql.sql in
    let x = c.in_ok-proofs.proofs in
    let h = c.in_ok-sql.ensures in
    let k = c.in_ok-proofs.ensures in
    subst (λ (d : Condition). Says c.args.schema d x.predicate) h.same
    (says_of c.proofs_tell_of_conditions.ensures c.args.schema sql.scope sql.condition sql.predicate sql.opaque.items x c.len-columns.ensures.is_scope (columns_behind c.args.text.now c.args.schema.scope sql.opaque.items sql.scope h.scope) h.opaque h.says h.fits k.predicate k.right)

pub returns-clause-closed : goal.returns-clause-closed
returns-clause-closed g c = λ none.
    closed_by (own_rules (λ b. (g.dyn-1.0.entry b.vtable).1) c.args.rules.now.own.items) _ c.in_ok-proofs.proofs (ap (map (own_rule (λ b. (g.dyn-1.0.entry b.vtable).1))) none) c.in_ok-proofs.ensures.made

pub returns-in_err-proofs-clause-refused : goal.returns-in_err-proofs-clause-refused
returns-in_err-proofs-clause-refused g c =
    let p = err_from_is_err_and c.from_residual-in_err-proofs.result c.from_residual-in_err-proofs.ensures.1 in
    let sql = c.in_ok-sql.sql in
    let h = c.in_ok-sql.ensures in
    rw (p.1, p.2) (record { predicate = sql.predicate; says = subst (λ (d : Condition). Says c.args.schema d sql.predicate) h.same h.says; cause = c.in_err-proofs.ensures.refusal (of_bool sql.predicate h.bool) })
