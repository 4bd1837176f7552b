-- What is known of a part is a zone.
use Rattle.std.proofs.Common.{◌≡◌, true, List, [], ◌∷◌, map, refl, ap, ap₂, ◌∙◌}
use Rattle.vortex_base.specs.Data.Columns.{ChunkData, ColumnData, IsChunk, has_types}
use Rattle.vortex_base.specs.Data.Exact.{both_true}
use Rattle.vortex_base.specs.Data.Scopes.{Named}
use Rattle.vortex_base.specs.Data.Types.{dtype_eq_is_exact}
use Rattle.vortex_base.specs.declared.dtype.DType.{DType}
use Rattle.vortex_prune.proofs.Honesty.PartLemmas.{types_of}
use Rattle.vortex_prune.specs.Part.{IsPart, PartData, sets_fit, zone_of}
use Rattle.vortex_zone_map.specs.Zone.{Entries, IsZone, each_fits, fits_zone}

-- the columns of a chunk have the types of its scope
types_alike : (ns : List Named) (cs : List ColumnData) → has_types ns cs ≡ true → map (λ (c : Named). c.1) ns ≡ map (λ (c : ColumnData). c.dtype) cs
types_alike [] [] h = refl
types_alike [] (c ∷ cs) h = cc
types_alike (n ∷ ns) [] h = cc
types_alike (n ∷ ns) (c ∷ cs) h = ap₂ (λ (t : DType) (ts : List DType). t ∷ ts) ((dtype_eq_is_exact n.1 c.dtype).0 (both_true _ _ h).0) (types_alike ns cs (both_true _ _ h).1)

pub chunk_alike : (k : ChunkData) (ss : List Entries) → IsChunk k → fits_zone k.scope ss ≡ sets_fit k.columns ss
chunk_alike k ss h = ap (λ ts. each_fits ts ss) (types_alike k.scope k.columns (types_of k h))

-- so what is known of a part is a zone of its scope
pub part_is_zone : (p : PartData) → IsPart p → IsZone p.chunk.scope (zone_of p)
part_is_zone p h = chunk_alike p.chunk p.stats h.0 ∙ h.1
