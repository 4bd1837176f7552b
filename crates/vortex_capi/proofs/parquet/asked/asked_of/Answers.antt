use Rattle.std.proofs.Common.{List, [], ap, map, subst, sym, ◌∙◌}
use Rattle.std.proofs.lemmas.Result.{err_from_is_err_and}
use Rattle.std.specs.Prelude.{ℕ}
use Rattle.vortex_parquet.specs.Columns.{column_views, columns_of}
use Rattle.vortex_parquet.specs.Records.{element_view, file_view}
use Rattle.vortex_parquet.specs.declared.records.SchemaElement.{SchemaElement}
use Rattle.vortex_predicates.specs.Footers.Refusals.{IsToldOf}
use Rattle.vortex_capi.proofs.ParquetCalls.Refusing.{condition_refused, text_refused}
use Rattle.vortex_capi.proofs.parquet.asked.asked_of.Goals as goal

pub returns-in_err-text-clause-refused : goal.returns-in_err-text-clause-refused
returns-in_err-text-clause-refused c =
    let p = err_from_is_err_and c.from_residual-in_err-text.result c.from_residual-in_err-text.ensures.1 in
    let columns = c.in-Ok-columns_of.columns in
    rw (p.1, p.2) (λ n. text_refused c.args.footer.now c.args.text.now c.args.flags (file_view c.in-Ok.file) (column_views columns.columns.items) columns.leaves c.in_err-text.field-0.0 c.in-Ok.ensures
    (ap (λ (es : List SchemaElement). columns_of (map element_view es)) (sym c.deref.ensures.value) ∙ c.in-Ok-columns_of.ensures) c.in_err-text.ensures.refused)

pub returns-clause-refused : goal.returns-clause-refused
returns-clause-refused c = λ n.
    let columns = c.in-Ok-columns_of.columns in
    condition_refused c.args.footer.now c.args.text.now c.args.flags (file_view c.in-Ok.file) (column_views columns.columns.items) columns.leaves c.in-Err-try_new.error c.of_footer.result c.in-Ok.ensures
    (ap (λ (es : List SchemaElement). columns_of (map element_view es)) (sym c.deref.ensures.value) ∙ c.in-Ok-columns_of.ensures) c.in_ok-text.ensures.utf8
    (subst (λ (bytes : List ℕ). IsToldOf [] (column_views columns.columns.items) columns.leaves bytes c.in-Err-try_new.error) c.in_ok-text.ensures.text (rw c.builtin-rules.ensures at c.in-Err-try_new.ensures.refused)) c.of_footer.ensures
