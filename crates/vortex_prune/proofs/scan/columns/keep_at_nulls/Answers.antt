use Rattle.std.proofs.Common.{sym, ◌∙◌}
use Rattle.vortex_prune.proofs.Scanning.ColumnLemmas.{marked_at_nulls, marked_at_no_nulls}
use Rattle.vortex_prune.proofs.scan.columns.keep_at_nulls.Goals as goal

pub returns-then-not-passes : goal.returns-then-not-passes
returns-then-not-passes c = c.fill.ensures.after (λ y e. e) ∙ marked_at_no_nulls c.args.test c.args.count c.args.from c.args.marks.now (sym c.passes.ensures ∙ c.if-not-passes.true)

pub returns-else-not-passes : goal.returns-else-not-passes
returns-else-not-passes c = marked_at_nulls c.args.test c.args.count c.args.from c.args.marks.now (sym c.passes.ensures ∙ c.if-not-passes.false)
