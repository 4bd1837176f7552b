use Rattle.std.proofs.Common.{◌≡◌, ◌++◌, List, Some, ap, drop, length, take, sym, subst, ◌∙◌}
use Rattle.std.proofs.lemmas.List.{with_items_is}
use Rattle.std.specs.Str.Lines.{lines}
use Rattle.vortex_base.specs.Data.Columns.{ColumnData}
use Rattle.vortex_syntax.specs.Fails.{Fails}
use Rattle.vortex_text.proofs.StoreSteps.{first_is_store, first_refused, first_view}
use Rattle.vortex_text.specs.FirstLines.{first_row}
use Rattle.vortex_text.specs.Stores.{StoreData, with_first}
use Rattle.vortex_text.proofs.store.Store.push_first_row.Goals as goal

pub invariant_of-self : goal.invariant_of-self
invariant_of-self c =
    let s = c.self.inside in
    let ls = lines c.args.text.now in
    let rest = lines c.in-Some.after.now in
    let new = take s.columns.len (c.push_first_row.new.columns ++ drop (length c.push_first_row.new.columns) s.columns.items) in
    let same : new ≡ c.push_first_row.new.columns = with_items_is s.columns c.push_first_row.new.columns (c.push_first_row.auto.columns ∙ c.deref_mut.ensures.len) in
    let read : first_row s.columns.items ls ≡ Some (new, rest) = ap (λ cs. first_row cs ls) (sym c.deref_mut.ensures.value) ∙ c.in-Some.ensures.row ∙ ap (λ cs. Some (cs, rest)) (sym same) in
    first_is_store s.scope s.columns.items new s.log s.from s.is_open ls rest c.self.invariant c.if-not-self.false read

pub returns-in-Some-clause-row : goal.returns-in-Some-clause-row
returns-in-Some-clause-row c =
    let s = c.self.inside in
    let ls = lines c.args.text.now in
    let rest = lines c.in-Some.after.now in
    let new = take s.columns.len (c.push_first_row.new.columns ++ drop (length c.push_first_row.new.columns) s.columns.items) in
    let same : new ≡ c.push_first_row.new.columns = with_items_is s.columns c.push_first_row.new.columns (c.push_first_row.auto.columns ∙ c.deref_mut.ensures.len) in
    let read : first_row s.columns.items ls ≡ Some (new, rest) = ap (λ cs. first_row cs ls) (sym c.deref_mut.ensures.value) ∙ c.in-Some.ensures.row ∙ ap (λ cs. Some (cs, rest)) (sym same) in
    ap (λ (x : StoreData). with_first x ls) (sym c.self.view_is)
    ∙ first_view s.scope s.columns.items new s.log s.from s.is_open ls rest c.self.invariant c.if-not-self.false read

pub returns-in-None-clause-row : goal.returns-in-None-clause-row
returns-in-None-clause-row c =
    let s = c.self.inside in
    let ls = lines c.args.text.now in
    let fails : Fails c.push_first_row.new.refused (first_row s.columns.items ls) = subst (λ (cs : List ColumnData). Fails c.push_first_row.new.refused (first_row cs ls)) c.deref_mut.ensures.value c.in-None.ensures.row in
    subst (λ (x : StoreData). Fails c.push_first_row.new.refused (with_first x ls)) c.self.view_is
    (first_refused c.push_first_row.new.refused s.scope s.columns.items s.log s.from s.is_open ls c.self.invariant c.if-not-self.false fails)
