use Rattle.std.proofs.Common.{List, subst}
use Rattle.std.proofs.lemmas.Result.{err_from_is_err_and}
use Rattle.vortex_parquet.specs.Columns.{column_views}
use Rattle.vortex_parquet.specs.declared.columns.Column.{Column}
use Rattle.vortex_predicates.proofs.Footers.Refusing.{name_told}
use Rattle.vortex_predicates.specs.Footers.Mentions.{mentions}
use Rattle.vortex_predicates.specs.Footers.Refusals.{IsLeftOutOf}
use Rattle.vortex_predicates.proofs.parquet.footer_condition.FooterCondition.try_new.Goals as goal

pub returns-in_err-schema-clause-refused : goal.returns-in_err-schema-clause-refused
returns-in_err-schema-clause-refused g c =
    let p = err_from_is_err_and c.from_residual.result c.from_residual.ensures.1 in
    let e = c.in_err-schema.field-0.0 in
    rw (p.1, p.2) (name_told _ (column_views c.args.columns.now.columns.items) c.args.columns.now.leaves c.args.text.now c.in-Ok.condition e c.in-Ok.ensures.places c.in-Ok.ensures.joined
    (subst (λ (cs : List Column). IsLeftOutOf (column_views cs) (mentions c.in-Ok.condition) e) c.deref.ensures.value c.in_err-schema.ensures.refused))
