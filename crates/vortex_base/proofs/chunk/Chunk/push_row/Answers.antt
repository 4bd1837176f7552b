-- A chunk with one more row that fits.
use Rattle.std.proofs.Common.{◌≡◌, ap, length, List, subst, sym, true, ◌∙◌}
use Rattle.vortex_base.proofs.Data.ChunkLemmas.{IsChunk-pushed, length-with_row}
use Rattle.vortex_base.proofs.Data.PushLemmas.{written}
use Rattle.vortex_base.specs.Data.Columns.{ColumnData, IsChunk, row_count, row_fits, with_row}
use Rattle.vortex_base.specs.contracts.chunk.Chunk.{the_view}
use Rattle.vortex_base.proofs.chunk.Chunk.push_row.Goals as goal

pub invariant_of-self-2 : goal.invariant_of-self-2
invariant_of-self-2 c =
    let k = the_view c.self.inside in
    let values = c.args.values.items in
    let fits : row_fits k.columns values ≡ true = rw (c.deref.ensures.value, c.deref-2.ensures.value) at (sym c.row_fits.ensures ∙ c.if-not-row_fits.false) in
    let pushed : c.push_each.new.columns ≡ with_row k.columns values = c.in_ok-push_each.ensures.pushed ∙ ap (λ ds. with_row ds values) c.deref_mut.ensures.value in
    let long = ap length pushed ∙ length-with_row k.columns values in
    let same = written c.self.inside.columns.len c.push_each.new.columns k.columns (long ∙ ap length (sym c.deref.ensures.value) ∙ c.deref.ensures.len) ∙ pushed in
    (c.row_count-self-inside.ensures ∙ ap row_count c.deref-3.ensures.value, subst (λ (ds : List ColumnData). IsChunk (record { scope = k.scope; columns = ds })) (sym same) (IsChunk-pushed k values c.self.invariant.1 fits))
