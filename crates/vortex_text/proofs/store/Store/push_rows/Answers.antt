use Rattle.std.proofs.Common.{◌++◌, drop, length, set, take, subst, ◌∙◌, arith}
use Rattle.std.proofs.lemmas.List.{length-set, with_items_is}
use Rattle.vortex_text.proofs.ManyRows.{only_store}
use Rattle.vortex_text.proofs.StoreLemmas.{chunk}
use Rattle.vortex_text.specs.FirstLines.{TakesRows}
use Rattle.vortex_text.specs.Stores.{StoreData, parts_in, with_first}
use Rattle.vortex_text.proofs.store.Store.push_rows.Goals as goal

pub invariant_of-self-then-this-lt2 : goal.invariant_of-self-then-this-lt2
invariant_of-self-then-this-lt2 c =
    let s = c.self.inside in
    let xs = c.deref_mut.result.now in
    let put = set xs 0 c.take_rows.new.self in
    (only_store c.take_rows.result.0 s.scope s.columns.items xs (take s.columns.len (put ++ drop (length put) s.columns.items)) c.index-column-0.result c.take_rows.new.self s.log s.from s.is_open c.args.text.now c.take_rows.result.1.now
    (omega (arith, c.in-len1.len_at_least, c.in-len1.len_below)) c.deref_mut.ensures.value (with_items_is s.columns put (length-set xs 0 c.take_rows.new.self ∙ c.deref_mut.ensures.len)) c.self.invariant c.if-not-self.false c.take_rows.ensures.rows).0

pub returns-in-len1-clause-rows : goal.returns-in-len1-clause-rows
returns-in-len1-clause-rows c =
    let s = c.self.inside in
    let xs = c.deref_mut.result.now in
    let put = set xs 0 c.take_rows.new.self in
    let columns = take s.columns.len (put ++ drop (length put) s.columns.items) in
    subst (λ (x : StoreData). TakesRows with_first c.take_rows.result.0 x c.args.text.now (parts_in (chunk s.scope columns) s.log s.from s.is_open) c.take_rows.result.1.now) c.self.view_is
    (only_store c.take_rows.result.0 s.scope s.columns.items xs columns c.index-column-0.result c.take_rows.new.self s.log s.from s.is_open c.args.text.now c.take_rows.result.1.now (omega (arith, c.in-len1.len_at_least, c.in-len1.len_below))
    c.deref_mut.ensures.value (with_items_is s.columns put (length-set xs 0 c.take_rows.new.self ∙ c.deref_mut.ensures.len)) c.self.invariant c.if-not-self.false c.take_rows.ensures.rows).1
