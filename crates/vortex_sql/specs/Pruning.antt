-- What pruning by the predicate of a condition says of the condition itself.
use Rattle.std.specs.Prelude.{◌≡◌, ◌≢◌, ◌<◌, ◌++◌, ℕ, Bool, true, false, Option, Some, List, map, replicate}
use Rattle.vortex_base.specs.Data.Columns.{ColumnData, ChunkData, IsChunk, row_of, row_count}
use Rattle.vortex_expr.specs.Meanings.Meaning.{truth_value, satisfies}
use Rattle.vortex_expr.specs.Trees.Tree.{Tree, Place}
use Rattle.vortex_sql.specs.declared.syntax.tree.Leaf.{Leaf}
use Rattle.vortex_sql.specs.declared.syntax.tree.Condition.{Condition}
use Rattle.vortex_sql.specs.Readings.{bool_or_null}
use Rattle.vortex_sql.specs.Lowering.{Says, opaques, truth_on}
use Rattle.vortex_sql.specs.Schemas.{SchemaData}

-- a column that tells the same truth at each of n rows
abbrev pub told_column : ℕ → Option Bool → ColumnData
told_column n b = record { dtype = bool_or_null; values = replicate n (truth_value b); size = 0 }

-- the columns with one behind them for each leaf that isn't read, which tells what f does
abbrev pub with_columns : ℕ → (Leaf → Option Bool) → List Leaf → List ColumnData → List ColumnData
with_columns n f ls cs = cs ++ map (λ l. told_column n (f l)) ls

-- the row doesn't satisfy the condition, whatever its leaves that aren't read mean on it
abbrev pub Refuted : SchemaData → Condition → List ColumnData → ℕ → Type 0
Refuted s c cs r = (f : Leaf → Option Bool) → truth_on s (row_of r cs) f c ≢ Some true

-- if the predicate of a condition is refuted of a row of a chunk whatever columns tell of the leaves that aren't read, then so is the condition of the row
abbrev pub RefutesCondition : Type 0
RefutesCondition =
    (k : ChunkData) (s : SchemaData) (c : Condition) (e : Tree Place) → s.scope ≡ k.scope → IsChunk k → Says s c e → (r : ℕ) → r < row_count k.columns
    → ((f : Leaf → Option Bool) → satisfies e (row_of r (with_columns (row_count k.columns) f (opaques s c) k.columns)) (row_count k.columns) ≡ false)
    → Refuted s c k.columns r

-- the row satisfies it, whatever they mean
abbrev pub Confirmed : SchemaData → Condition → List ColumnData → ℕ → Type 0
Confirmed s c cs r = (f : Leaf → Option Bool) → truth_on s (row_of r cs) f c ≡ Some true

-- if the predicate of a condition is satisfied by a row of a chunk whatever columns tell of the leaves that aren't read, then so is the condition by the row
abbrev pub ConfirmsCondition : Type 0
ConfirmsCondition =
    (k : ChunkData) (s : SchemaData) (c : Condition) (e : Tree Place) → s.scope ≡ k.scope → IsChunk k → Says s c e → (r : ℕ) → r < row_count k.columns
    → ((f : Leaf → Option Bool) → satisfies e (row_of r (with_columns (row_count k.columns) f (opaques s c) k.columns)) (row_count k.columns) ≡ true)
    → Confirmed s c k.columns r
