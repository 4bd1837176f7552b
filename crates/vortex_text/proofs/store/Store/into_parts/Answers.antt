use Rattle.std.proofs.Common.{◌≡◌, ◌≤◌, refl, ap, subst, sym, ◌∙◌}
use Rattle.std.specs.Prelude.{sum}
use Rattle.vortex_base.specs.Data.Columns.{ChunkData, IsChunk, row_count}
use Rattle.vortex_prune.specs.Scanning.RangeScans.{counts_of, range_parts}
use Rattle.vortex_text.proofs.StartLemmas.{chunk_is, chunk_not_refused}
use Rattle.vortex_text.proofs.StoreLemmas.{chunk}
use Rattle.vortex_text.proofs.StoreSteps.{whole_is_chunk, within_chunk}
use Rattle.vortex_text.specs.Fitting.{AreNeighbours}
use Rattle.vortex_text.specs.Stores.{StoreData, all_parts}
use Rattle.vortex_text.proofs.store.Store.into_parts.Goals as goal

pub unreachable-requires : goal.unreachable-requires
unreachable-requires c =
    let s = c.self.inside in
    let k = chunk s.scope s.columns.items in
    let whole : IsChunk k = whole_is_chunk k s.log s.from s.is_open s.log.zones refl c.self.invariant (subst (λ (x : StoreData). AreNeighbours (all_parts x)) (sym c.self.view_is) c.requires) in
    chunk_not_refused s.scope s.columns.items c.in_ok-columns.columns.items c.try_new.result c.in_default.field-0 whole c.in_ok-columns.ensures c.try_new.ensures c.in_default.is

pub new-requires : goal.new-requires
new-requires c =
    let s = c.self.inside in
    let k = chunk s.scope s.columns.items in
    let whole : IsChunk k = whole_is_chunk k s.log s.from s.is_open s.log.zones refl c.self.invariant (subst (λ (x : StoreData). AreNeighbours (all_parts x)) (sym c.self.view_is) c.requires) in
    let same : c.in-Ok.chunk ≡ k = chunk_is s.scope c.in_ok-columns.columns.items c.in-Ok.chunk (sym c.in-Ok.ensures) ∙ ap (chunk s.scope) c.in_ok-columns.ensures in
    subst (λ (x : ChunkData). sum (counts_of s.log.zones) ≤ row_count x.columns) (sym same) (within_chunk k s.log s.from s.is_open c.self.invariant whole)

pub returns : goal.returns
returns c =
    let s = c.self.inside in
    let k = chunk s.scope s.columns.items in
    let same : c.in-Ok.chunk ≡ k = chunk_is s.scope c.in_ok-columns.columns.items c.in-Ok.chunk (sym c.in-Ok.ensures) ∙ ap (chunk s.scope) c.in_ok-columns.ensures in
    c.new.ensures ∙ ap (λ (x : ChunkData). range_parts x 0 s.log.zones) same ∙ ap (λ (x : StoreData). x.ended) c.self.view_is
