use Rattle.std.proofs.Common.{ap, sym, ◌∙◌}
use Rattle.vortex_base.specs.Data.Scopes.{named_columns}
use Rattle.vortex_expr.specs.Meanings.Binding.{find_column}
use Rattle.vortex_parquet.specs.Columns.{column_views}
use Rattle.vortex_predicates.specs.Footers.Mentions.{view}
use Rattle.vortex_predicates.proofs.Footers.Choices.{stays_found}
use Rattle.vortex_predicates.proofs.parquet.chosen.Chosen.take.Goals as goal

pub returns-in-Some-clause-chosen : goal.returns-in-Some-clause-chosen
returns-in-Some-clause-chosen c = λ ms h.
    let scope = named_columns c.args.self.now.columns in
    stays_found (column_views c.args.columns.now) ms scope c.args.self.now.leaves.items (view c.args.mention.now) h (record { index = c.in-Some.field-0.0; dtype = c.in-Some.field-0.1 })
    (sym (c.in-Some.ensures ∙ ap (find_column scope) (c.as_bytes.ensures.value ∙ c.as_str.ensures.value)))
