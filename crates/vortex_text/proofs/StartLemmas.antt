-- What a chunk is made of.
use Rattle.std.proofs.Common.{◌≡◌, ◌&&◌, List, Result, Ok, Err, refl, ap, ◌∙◌, inl, inr}
use Rattle.std.specs.List.{list_all}
use Rattle.std.proofs.lemmas.Bool.{cases_Bool}
use Rattle.vortex_base.specs.Data.Columns.{ChunkData, ColumnData, IsChunk, chunk_of, has_shape, has_types, is_column}
use Rattle.vortex_base.specs.Data.Exact.{both_true}
use Rattle.vortex_base.specs.Data.Scopes.{Named, is_scope}
use Rattle.vortex_base.specs.declared.error.BaseError.{BaseError}

-- the chunk of a scope and columns is those
pub chunk_is : (ss : List Named) (cs : List ColumnData) (k : ChunkData) → chunk_of ss cs ≡ Ok k → k ≡ record { scope = ss; columns = cs }
chunk_is ss cs k h = elim (cases_Bool (has_shape ss cs)) [
  | inl shape ↦ (elim (cases_Bool (has_types ss cs)) [
    | inl types ↦ (let e = rw (shape, types) at h in cc)
    | inr other ↦ (let e = rw (shape, other) at h in cc)
  ])
  | inr other ↦ (let e = rw other at h in cc)
]

-- where those are a chunk, it is made
pub chunk_made : (ss : List Named) (cs : List ColumnData) → IsChunk (record { scope = ss; columns = cs }) → chunk_of ss cs ≡ Ok (record { scope = ss; columns = cs })
chunk_made ss cs h =
    let rest = both_true (has_shape ss cs) (has_types ss cs && list_all is_column cs) (both_true (is_scope ss) (has_shape ss cs && (has_types ss cs && list_all is_column cs)) h).1 in
    let types = both_true (has_types ss cs) (list_all is_column cs) rest.1 in
    rw (rest.0, types.0) refl

pub chunk_not_refused : (ss : List Named) (cs own : List ColumnData) (r : Result ChunkData BaseError) (e : BaseError) → IsChunk (record { scope = ss; columns = cs })
    → own ≡ cs → r ≡ chunk_of ss own → r ≡ Err e → ⊥
chunk_not_refused ss cs own r e h same made refused = let all = made ∙ ap (chunk_of ss) same ∙ chunk_made ss cs h in cc
