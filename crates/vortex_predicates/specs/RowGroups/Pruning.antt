-- Row groups as zones, and when pruning them is sound.
use Rattle.std.specs.Prelude.{◌≡◌, ◌⊎◌, ℕ, true, false, Contains, List, Ok, Some, map, slice_get}
use Rattle.vortex_base.specs.Data.Columns.{ChunkData, IsChunk, row_count}
use Rattle.vortex_base.specs.Data.Scopes.{Named}
use Rattle.vortex_expr.specs.Trees.Tree.{Place, Tree}
use Rattle.vortex_parquet.specs.declared.columns.Leaf.{Leaf}
use Rattle.vortex_parquet.specs.declared.stats.GroupStats.{GroupStats}
use Rattle.vortex_parquet.specs.Records.{FileData, RowGroupData, row_groups_of}
use Rattle.vortex_parquet.specs.Stats.{GroupData, group_view, groups_of}
use Rattle.vortex_parquet.specs.Truth.{IsTrueGroup}
use Rattle.vortex_prune.specs.Part.{IsPartOf, IsTruePart}
use Rattle.vortex_zone_map.specs.Zone.{AreZonesOf, ZoneData, zones_fit}
use Rattle.vortex_prune.specs.Scanning.ZoneScans.{EachSatisfies, most_causes}
use Rattle.vortex_rewrite.specs.Causes.{IsRefusal}
use Rattle.vortex_rewrite.specs.Rewriting.Lawful.{OwnRule}
use Rattle.vortex_rewrite.specs.Rewriting.Predicates.{is_predicate}
use Rattle.vortex_stats.specs.declared.error.StatsError.{StatsError}
use Rattle.vortex_stats.specs.declared.error.StatsError.TheVariants.{Mismatch, NotPredicate}

-- a row group as a zone
abbrev pub zone_data : GroupStats → ZoneData
zone_data g = record { rows = g.rows; stats = g.stats.items }

-- what is known of a row group as a zone
abbrev pub known_zone : GroupData → ZoneData
known_zone g = record { rows = g.rows; stats = g.stats }

-- the rows of a chunk may stand in a row group: they are of the scope, as many, and the footer's statistics are true of them
pub record MayStandIn (file : FileData) (scope : List Named) (ls : List Leaf) (g : RowGroupData) (k : ChunkData) : Type 0 where
  pub is_chunk : IsChunk k
  pub scoped : k.scope ≡ scope
  pub counted : row_count k.columns ≡ g.rows
  pub are_true : IsTrueGroup file.orders g.columns ls k.columns

-- the row group at a place of a file
pub record IsGroupAt (file : FileData) (i : ℕ) (g : RowGroupData) : Type 0 where
  pub groups : List RowGroupData
  pub are_groups : row_groups_of file ≡ Ok groups
  pub here : slice_get groups i ≡ Some g

-- rows that may stand in a row group are a part of its zone, whose statistics are true
abbrev pub GroupsAreParts : Type 0
GroupsAreParts =
    (scope : List Named) (ls : List Leaf) (gs : List GroupStats) → AreZonesOf scope (map zone_data gs)
    → (file : FileData) (count : ℕ) → groups_of ls count file ≡ Ok (map group_view gs)
    → (i : ℕ) (g : RowGroupData) (k : ChunkData) → IsGroupAt file i g → MayStandIn file scope ls g k
    → (zone : ZoneData) × (slice_get (map zone_data gs) i ≡ Some zone) × IsPartOf scope zone (record { chunk = k; stats = zone.stats }) × IsTruePart (record { chunk = k; stats = zone.stats })

-- pruning row groups by a predicate is refused if it is none, if a set fits no column of the scope, for a rule of the user, or for memory
abbrev pub IsPruningRefusal : List OwnRule → Tree Place → List Named → List ZoneData → StatsError → Type 0
IsPruningRefusal own p scope zones e =
    ((is_predicate p ≡ false) × (e ≡ NotPredicate)) ⊎ (((zones_fit scope zones ≡ false) × (e ≡ Mismatch)) ⊎ IsRefusal (most_causes own p (map (λ zone. zone.rows) zones)) e)

-- whatever rows stand in a row group, if its statistics in the footer are true of them: none satisfies the predicate where the row group is skipped, and each does where it is whole
abbrev pub PrunesSoundly : Tree Place → List Named → List Leaf → FileData → (skipped whole : List ℕ) → Type 0
PrunesSoundly p scope ls file skipped whole =
    (i : ℕ) (g : RowGroupData) (k : ChunkData) → IsGroupAt file i g → MayStandIn file scope ls g k
    → (Contains skipped i → EachSatisfies false p k) × (Contains whole i → EachSatisfies true p k)
