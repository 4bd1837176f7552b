-- Scans of chunks that come without statistics.
use Rattle.std.specs.Prelude.{ℕ, List}
use Rattle.std.specs.List.{enumerate_from, flat_map}
use Rattle.vortex_base.specs.Data.Columns.{ChunkData}
use Rattle.vortex_expr.specs.Trees.Tree.{Place, Tree}
use Rattle.vortex_prune.specs.Scanning.Selection.{satisfying_rows}

-- every row of the chunks that satisfies the predicate, as chunk and row, ascending
abbrev pub rows_of_chunks : Tree Place → List ChunkData → List (ℕ × ℕ)
rows_of_chunks p chunks = flat_map (λ e. satisfying_rows p e.0 e.1) (enumerate_from 0 chunks)
