use Rattle.std.proofs.Common.{◌≡◌, ◌++◌, List, Some, ap, drop, length, take, sym, subst, ◌∙◌}
use Rattle.std.proofs.lemmas.List.{with_items_is}
use Rattle.vortex_base.specs.Data.Columns.{ColumnData}
use Rattle.vortex_syntax.specs.Fails.{Fails}
use Rattle.vortex_syntax.specs.Words.{words}
use Rattle.vortex_text.proofs.StoreSteps.{row_is_store, row_refused, row_view}
use Rattle.vortex_text.specs.Columns.{with_values}
use Rattle.vortex_text.specs.Stores.{StoreData, with_words}
use Rattle.vortex_text.proofs.store.Store.push_row.Goals as goal

pub invariant_of-self : goal.invariant_of-self
invariant_of-self c =
    let s = c.self.inside in
    let line = words c.args.line.now in
    let new = take s.columns.len (c.push_row.new.columns ++ drop (length c.push_row.new.columns) s.columns.items) in
    let same : new ≡ c.push_row.new.columns = with_items_is s.columns c.push_row.new.columns (c.push_row.auto.columns ∙ c.deref_mut.ensures.len) in
    let read : with_values s.columns.items line ≡ Some new = ap (λ cs. with_values cs line) (sym c.deref_mut.ensures.value) ∙ c.in-Ok.ensures ∙ ap Some (sym same) in
    row_is_store s.scope s.columns.items new s.log s.from s.is_open line c.self.invariant c.if-not-self.false read

pub returns-in-Ok-clause-row : goal.returns-in-Ok-clause-row
returns-in-Ok-clause-row c =
    let s = c.self.inside in
    let line = words c.args.line.now in
    let new = take s.columns.len (c.push_row.new.columns ++ drop (length c.push_row.new.columns) s.columns.items) in
    let same : new ≡ c.push_row.new.columns = with_items_is s.columns c.push_row.new.columns (c.push_row.auto.columns ∙ c.deref_mut.ensures.len) in
    let read : with_values s.columns.items line ≡ Some new = ap (λ cs. with_values cs line) (sym c.deref_mut.ensures.value) ∙ c.in-Ok.ensures ∙ ap Some (sym same) in
    ap (λ (x : StoreData). with_words x line) (sym c.self.view_is)
    ∙ row_view s.scope s.columns.items new s.log s.from s.is_open line c.self.invariant c.if-not-self.false read

pub returns-in-Err-clause-row : goal.returns-in-Err-clause-row
returns-in-Err-clause-row c =
    let s = c.self.inside in
    let line = words c.args.line.now in
    let fails : Fails c.in-Err.refused (with_values s.columns.items line) = subst (λ (cs : List ColumnData). Fails c.in-Err.refused (with_values cs line)) c.deref_mut.ensures.value c.in-Err.ensures in
    subst (λ (x : StoreData). Fails c.in-Err.refused (with_words x line)) c.self.view_is
    (row_refused c.in-Err.refused s.scope s.columns.items s.log s.from s.is_open line c.self.invariant c.if-not-self.false fails)
