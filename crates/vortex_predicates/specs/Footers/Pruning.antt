-- When pruning row groups by a condition is sound.
use Rattle.std.specs.Prelude.{◌<◌, ℕ, Contains, List}
use Rattle.vortex_base.specs.Data.Columns.{ChunkData, row_count}
use Rattle.vortex_parquet.specs.declared.columns.Leaf.{Leaf}
use Rattle.vortex_parquet.specs.Records.{FileData, RowGroupData}
use Rattle.vortex_predicates.specs.RowGroups.Pruning.{IsGroupAt, MayStandIn}
use Rattle.vortex_sql.specs.Pruning.{Confirmed, Refuted}
use Rattle.vortex_sql.specs.Schemas.{SchemaData}
use Rattle.vortex_sql.specs.declared.syntax.tree.Condition.{Condition}

-- whatever rows stand in a row group, if its statistics in the footer are true of them, and whatever the leaves of the condition mean that aren't read: none satisfies it where the row group is skipped, and each does where it is whole
abbrev pub PrunesCondition : SchemaData → Condition → List Leaf → FileData → (skipped whole : List ℕ) → Type 0
PrunesCondition s c ls file skipped whole =
    (i : ℕ) (g : RowGroupData) (k : ChunkData) → IsGroupAt file i g → MayStandIn file s.scope ls g k
    → (Contains skipped i → (r : ℕ) → r < row_count k.columns → Refuted s c k.columns r)
    × (Contains whole i → (r : ℕ) → r < row_count k.columns → Confirmed s c k.columns r)
