use Rattle.std.proofs.Common.{Some, sym, ap, ◌∙◌}
use Rattle.vortex_base.specs.Data.Scopes.{named_columns}
use Rattle.vortex_syntax.proofs.Steps.{by_form}
use Rattle.vortex_syntax.specs.Words.{words}
use Rattle.vortex_syntax.specs.declared.form.Form.TheVariants as form
use Rattle.vortex_syntax.proofs.expression.+expression.Goals as goal

pub read_expression-returns-in-Binary-clause-read : goal.read_expression-returns-in-Binary-clause-read
read_expression-returns-in-Binary-clause-read t c =
    by_form (named_columns c.args.columns.now) (words c.args.line.now) (words c.in-Ok.found.1.now) c.in-Ok.found.0.now (form.Binary c.in-Binary.operator) (λ x. (x.0, words x.1.now)) c.read_binary.result
    c.in-Ok.ensures.word (sym c.form_of.ensures ∙ c.in-Some.is ∙ ap Some c.in-Binary.is) c.in-Ok.ensures.fewer c.read_binary.ensures.read

pub read_expression-returns-in-Between-clause-read : goal.read_expression-returns-in-Between-clause-read
read_expression-returns-in-Between-clause-read t c =
    by_form (named_columns c.args.columns.now) (words c.args.line.now) (words c.in-Ok.found.1.now) c.in-Ok.found.0.now form.Between (λ x. (x.0, words x.1.now)) c.read_between.result
    c.in-Ok.ensures.word (sym c.form_of.ensures ∙ c.in-Some.is ∙ ap Some c.in-Between.is) c.in-Ok.ensures.fewer c.read_between.ensures.read

pub read_expression-returns-in-IsNull-clause-read : goal.read_expression-returns-in-IsNull-clause-read
read_expression-returns-in-IsNull-clause-read t c =
    by_form (named_columns c.args.columns.now) (words c.args.line.now) (words c.in-Ok.found.1.now) c.in-Ok.found.0.now form.IsNull (λ x. (x.0, words x.1.now)) c.read_is_null.result
    c.in-Ok.ensures.word (sym c.form_of.ensures ∙ c.in-Some.is ∙ ap Some c.in-IsNull.is) c.in-Ok.ensures.fewer c.read_is_null.ensures.read

pub read_expression-returns-in-IsNotNull-clause-read : goal.read_expression-returns-in-IsNotNull-clause-read
read_expression-returns-in-IsNotNull-clause-read t c =
    by_form (named_columns c.args.columns.now) (words c.args.line.now) (words c.in-Ok.found.1.now) c.in-Ok.found.0.now form.IsNotNull (λ x. (x.0, words x.1.now)) c.read_is_not_null.result
    c.in-Ok.ensures.word (sym c.form_of.ensures ∙ c.in-Some.is ∙ ap Some c.in-IsNotNull.is) c.in-Ok.ensures.fewer c.read_is_not_null.ensures.read

pub read_expression-returns-in-Not-clause-read : goal.read_expression-returns-in-Not-clause-read
read_expression-returns-in-Not-clause-read t c =
    by_form (named_columns c.args.columns.now) (words c.args.line.now) (words c.in-Ok.found.1.now) c.in-Ok.found.0.now form.Not (λ x. (x.0, words x.1.now)) c.read_not.result
    c.in-Ok.ensures.word (sym c.form_of.ensures ∙ c.in-Some.is ∙ ap Some c.in-Not.is) c.in-Ok.ensures.fewer c.read_not.ensures.read

pub read_expression-returns-in-Like-clause-read : goal.read_expression-returns-in-Like-clause-read
read_expression-returns-in-Like-clause-read t c =
    by_form (named_columns c.args.columns.now) (words c.args.line.now) (words c.in-Ok.found.1.now) c.in-Ok.found.0.now (form.Like c.in-Like.options) (λ x. (x.0, words x.1.now)) c.read_like.result
    c.in-Ok.ensures.word (sym c.form_of.ensures ∙ c.in-Some.is ∙ ap Some c.in-Like.is) c.in-Ok.ensures.fewer c.read_like.ensures.read
