use Rattle.std.proofs.Common.{ap, ◌∙◌}
use Rattle.vortex_base.specs.Data.Scopes.{is_scope, named_columns}
use Rattle.vortex_expr.specs.Meanings.Fitting.{fits_scope}
use Rattle.vortex_capi.proofs.ScopeLemmas.{given_is_predicate, given_is_scope, halved_is_over}
use Rattle.vortex_capi.specs.declared.logical.Kinds.TheVariants.{Plain}
use Rattle.vortex_capi.proofs.prune.answers_given.Goals as goal

pub new_unchecked-requires : goal.new_unchecked-requires
new_unchecked-requires c =
    let scope = named_columns c.in_ok-columns.columns in
    let given = c.in_ok-predicate.ensures in
    let over = given_is_predicate scope c.args.text.now given.0 given.1 in
    ap (λ l. is_scope (named_columns l)) c.into_vec.ensures ∙ given_is_scope Plain c.args.fields.now scope c.in_ok-columns.ensures over.some

pub predicate_answers-requires-clause-plain : goal.predicate_answers-requires-clause-plain
predicate_answers-requires-clause-plain c =
    let scope = named_columns c.in_ok-columns.columns in
    let given = c.in_ok-predicate.ensures in
    (halved_is_over scope given.0 c.in_ok-predicate.predicate given.2 (given_is_predicate scope c.args.text.now given.0 given.1)).plain

pub predicate_answers-requires-clause-fits : goal.predicate_answers-requires-clause-fits
predicate_answers-requires-clause-fits c =
    let scope = named_columns c.in_ok-columns.columns in
    let given = c.in_ok-predicate.ensures in
    ap (fits_scope c.in_ok-predicate.predicate) (c.in_ok-scope.ensures ∙ c.new_unchecked.ensures ∙ ap named_columns c.into_vec.ensures)
    ∙ (halved_is_over scope given.0 c.in_ok-predicate.predicate given.2 (given_is_predicate scope c.args.text.now given.0 given.1)).fits

pub predicate_answers-requires-clause-predicate : goal.predicate_answers-requires-clause-predicate
predicate_answers-requires-clause-predicate c =
    let scope = named_columns c.in_ok-columns.columns in
    let given = c.in_ok-predicate.ensures in
    (halved_is_over scope given.0 c.in_ok-predicate.predicate given.2 (given_is_predicate scope c.args.text.now given.0 given.1)).truth
