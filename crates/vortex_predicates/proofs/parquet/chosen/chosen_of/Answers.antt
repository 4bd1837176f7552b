use Rattle.std.proofs.Common.{List, ap, subst, ◌∙◌}
use Rattle.std.proofs.lemmas.Result.{err_from_is_err_and}
use Rattle.vortex_parquet.specs.Columns.{column_views}
use Rattle.vortex_predicates.specs.Footers.Mentions.{MentionData, views}
use Rattle.vortex_predicates.specs.Footers.Refusals.{IsLeftOutOf}
use Rattle.vortex_predicates.proofs.Footers.Choices.{chosen_goes, left_out_of}
use Rattle.vortex_predicates.proofs.parquet.chosen.chosen_of.Goals as goal

pub loop-mention-preserved : goal.loop-mention-preserved
loop-mention-preserved c =
    chosen_goes (column_views c.args.columns.now) c.deref-mention-items.result.now _ _ c.loop-mention.mention-index c.mention-item.result c.loop-mention-test.true c.mention-item.is
    (c.in_ok-take.ensures.chosen _ c.loop-mention.invariant)

pub returns-in_err-take-clause-refused : goal.returns-in_err-take-clause-refused
returns-in_err-take-clause-refused c =
    let p = err_from_is_err_and c.from_residual-in_err-take.result c.from_residual-in_err-take.ensures.1 in
    let cs = column_views c.args.columns.now in
    rw (p.1, p.2) (subst (λ (ms : List MentionData). IsLeftOutOf cs ms c.in_err-take.field-0.0) (ap views c.deref-mention-items.ensures.value ∙ c.in_ok-mentions.ensures)
    (left_out_of cs c.deref-mention-items.result.now c.loop-mention.mention-index c.mention-item.result c.in_err-take.field-0.0 c.loop-mention-test.true c.mention-item.is c.loop-mention.invariant.taken c.in_err-take.ensures.refused))
