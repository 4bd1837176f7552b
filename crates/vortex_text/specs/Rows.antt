-- The parts that lines make: rows, statistics and joins.
use Rattle.std.specs.Prelude.{ℕ, ◌+◌, List, [], ◌∷◌, ◌++◌, Option, Some, map, take, drop, slice_get}
use Rattle.vortex_base.specs.Data.Columns.{ColumnData}
use Rattle.vortex_base.specs.Data.Scopes.{Named}
use Rattle.vortex_base.specs.declared.scalar_value.ScalarValue.{ScalarValue}
use Rattle.vortex_prune.specs.Part.{PartData, joined}
use Rattle.vortex_zone_map.specs.Zone.{Entries}
use Rattle.vortex_stats.specs.declared.precision.Precision.{Precision}
use Rattle.vortex_stats.specs.declared.stat.Stat.{Stat}
use Rattle.vortex_syntax.specs.Fails.{◌>>=◌}
use Rattle.vortex_syntax.specs.Words.{Token}
use Rattle.vortex_text.specs.Columns.{with_values}
use Rattle.vortex_zone_map.specs.Logs.{set_at}

-- a column of a part that has no rows yet; its size is 0
abbrev pub empty_column : Named → ColumnData
empty_column c = record { dtype = c.1; values = []; size = 0 }

abbrev pub no_entries : Named → Entries
no_entries c = []

-- a part with no rows, of which nothing is known
abbrev pub empty_part : List Named → PartData
empty_part scope = record { chunk = record { scope = scope; columns = map empty_column scope }; stats = map no_entries scope }

-- the part with one more row
abbrev pub with_row : PartData → List Token → Option PartData
with_row part ws = do
  columns ← with_values part.chunk.columns ws
  Some (record { chunk = record { scope = part.chunk.scope; columns = columns }; stats = part.stats })

-- the part with this value of the statistic of the column at a place
abbrev pub with_statistic : ℕ → Stat → Precision ScalarValue → PartData → PartData
with_statistic i s p part = record { chunk = part.chunk; stats = set_at i s p part.stats (slice_get part.stats i) }

-- the parts with the one at a place and the one behind it joined, and the later ones moved down by one
abbrev pub joined_at : ℕ → List PartData → Option (List PartData)
joined_at i parts = do
  left ← slice_get parts i
  right ← slice_get parts (i + 1)
  Some (take i parts ++ joined left right ∷ drop (i + 2) parts)
