use Rattle.std.proofs.Common.{sym, ◌∙◌}
use Rattle.vortex_base.specs.Data.Scopes.{named_columns}
use Rattle.vortex_capi.specs.Scopes.{expression_in}
use Rattle.vortex_capi.proofs.ScopeLemmas.{text_is_none, text_is_predicate}
use Rattle.vortex_capi.proofs.predicate.predicate_given.Goals as goal

pub returns-then-is_truth : goal.returns-then-is_truth
returns-then-is_truth c = text_is_predicate (expression_in (named_columns c.args.columns.now) c.args.text.now) c.in-Ok.expression c.in-Ok.ensures (sym c.is_truth.ensures ∙ c.if-is_truth.true)

pub returns-else-is_truth : goal.returns-else-is_truth
returns-else-is_truth c = text_is_none (expression_in (named_columns c.args.columns.now) c.args.text.now) c.in-Ok.expression c.at_entry.result c.at_entry.ensures c.in-Ok.ensures (sym c.is_truth.ensures ∙ c.if-is_truth.false)
