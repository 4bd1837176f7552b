-- Parts: the columns of some rows, with a set of statistics for each; and zones, which are what is known of them without the rows.
use Rattle.std.specs.Prelude.{◌≡◌, ℕ, Some, slice_get, Bool, List, [], ◌∷◌, IsTrue, MatchOption, map, ⊤}
use Rattle.vortex_base.specs.Data.Columns.{ChunkData, ColumnData, IsChunk, appended_chunk, row_count as rows_of}
use Rattle.vortex_base.specs.Data.Scopes.{Named}
use Rattle.vortex_stats.specs.Copies.{holds_long}
use Rattle.vortex_stats.specs.Sets.Claims.{IsTrueOf}
use Rattle.vortex_stats.specs.Measuring.Measured.{measured}
use Rattle.vortex_stats.specs.Stat.{all_stats}
use Rattle.vortex_zone_map.specs.Zone.{Entries, ZoneData, each_fits, merged_sets}

-- a part: a chunk, and a set for each of its columns
pub record PartData : Type 0 where
  pub chunk : ChunkData
  pub stats : List Entries

-- there is one set a column, and each fits its column's type
abbrev pub sets_fit : List ColumnData → List Entries → Bool
sets_fit cs ss = each_fits (map (λ c. c.dtype) cs) ss

abbrev pub IsPart : PartData → Type 0
IsPart p = IsChunk p.chunk × IsTrue (sets_fit p.chunk.columns p.stats)

-- what is known of a part without its rows
abbrev pub zone_of : PartData → ZoneData
zone_of p = record { rows = rows_of p.chunk.columns; stats = p.stats }

-- the part may be what stands in a zone: it has the scope, the number of rows and the statistics
pub record IsPartOf (scope : List Named) (zone : ZoneData) (p : PartData) : Type 0 where
  pub is_part : IsPart p
  pub scoped : p.chunk.scope ≡ scope
  pub known : zone_of p ≡ zone

-- each of a list of parts
abbrev pub AreParts : List PartData → Type 0
AreParts parts = (i : ℕ) (part : PartData) → slice_get parts i ≡ Some part → IsPart part

-- each set is true of the column beside it
abbrev pub AreTrueSets : List ColumnData → List Entries → Type 0
AreTrueSets [] [] = ⊤
AreTrueSets (c ∷ cs) (es ∷ ss) = IsTrueOf es c × AreTrueSets cs ss
AreTrueSets cs ss = ⊥

-- the statistics of the part are true of its columns
abbrev pub IsTruePart : PartData → Type 0
IsTruePart p = AreTrueSets p.chunk.columns p.stats

-- the rows of one part after those of another of its scope
abbrev pub joined : PartData → PartData → PartData
joined p q = record { chunk = appended_chunk p.chunk q.chunk; stats = merged_sets p.stats q.stats }

-- all statistics of each column, made from its values
abbrev pub measured_sets : List ColumnData → List Entries
measured_sets cs = map (measured all_stats) cs

-- the columns with the statistics that they have
abbrev pub measured_part : ChunkData → PartData
measured_part k = record { chunk = k; stats = measured_sets k.columns }

-- the column at the place is there, and holds texts or bytes
abbrev pub HoldsLongAt : ChunkData → ℕ → Type 0
HoldsLongAt k i = MatchOption (slice_get k.columns i) ⊥ (λ c. IsTrue (holds_long c.dtype))
