-- Parts as ranges of the rows of one set of columns, one behind the other, with their statistics in one log.
use Rattle.std.specs.Prelude.{◌≡◌, ◌<◌, ◌≤◌, ◌+◌, ℕ, Bool, true, false, List, [], ◌∷◌, Option, None, Some, drop, length, map, sum}
use Rattle.std.specs.List.{AllByRecursion, list_all}
use Rattle.vortex_base.specs.Data.Columns.{ChunkData, ColumnData, all_long, is_column, row_count}
use Rattle.vortex_base.specs.declared.scalar_value.ScalarValue.{ScalarValue}
use Rattle.vortex_prune.specs.Part.{PartData}
use Rattle.vortex_zone_map.specs.Zone.{Entries}
use Rattle.vortex_prune.specs.Scanning.RangeScans.{counts_of, range_parts}
use Rattle.vortex_stats.specs.declared.precision.Precision.{Precision}
use Rattle.vortex_stats.specs.declared.stat.Stat.{Stat}
use Rattle.vortex_syntax.specs.Fails.{when, ◌>>=◌}
use Rattle.vortex_syntax.specs.Words.{Token}
use Rattle.vortex_text.specs.FirstLines.{first_row}
use Rattle.vortex_text.specs.Lines.{and_current}
use Rattle.vortex_text.specs.Rows.{joined_at, with_row, with_statistic}
use Rattle.vortex_zone_map.specs.Logs.{LogData, empty_sets}

-- the parts that take no more rows, and the one that does
pub record StoreData : Type 0 where
  pub ended : List PartData
  pub current : Option PartData

-- ---- how they are held

-- the values of a column from a place on, of no declared size
abbrev pub rest_column : ℕ → ColumnData → ColumnData
rest_column from c = record { dtype = c.dtype; values = drop from c.values; size = 0 }

-- the rows of a chunk from one on, with these sets
abbrev pub rest_part : ChunkData → (from : ℕ) → List Entries → PartData
rest_part k from sets = record { chunk = record { scope = k.scope; columns = map (rest_column from) k.columns }; stats = sets }

-- the zones of the log are parts, each a range of rows; the open part has the rows from one on, and the sets of the zone that hasn't ended
abbrev pub parts_in : ChunkData → LogData → (from : ℕ) → (is_open : Bool) → StoreData
parts_in k log from is_open = record { ended = range_parts k 0 log.zones; current = when is_open (rest_part k from log.current) }

-- the columns are so long
abbrev pub AreLong : ℕ → List ColumnData → Type 0
AreLong n cs = AllByRecursion (λ c. length c.values ≡ n) cs

-- the columns are so long at least
abbrev pub HaveRows : ℕ → List ColumnData → Type 0
HaveRows n cs = AllByRecursion (λ c. n ≤ length c.values) cs

-- where no part is open, no rows stand behind those that have ended, nothing is told, and some part has ended
pub record IsShut (k : ChunkData) (log : LogData) (from : ℕ) : Type 0 where
  pub long : AreLong from k.columns
  pub untold : log.current ≡ empty_sets (length k.scope)
  pub some : 0 < length log.zones

-- the ended parts have as many rows as stand before the open one, and the columns are columns of one length
pub record IsStore (k : ChunkData) (log : LogData) (from : ℕ) (is_open : Bool) : Type 0 where
  pub counted : sum (counts_of log.zones) ≡ from
  pub within : HaveRows from k.columns
  pub alike : all_long (row_count k.columns) k.columns ≡ true
  pub fit : list_all is_column k.columns ≡ true
  pub sets : length log.current ≡ length k.scope
  pub shut : is_open ≡ false → IsShut k log from

-- the columns end at this row, of which there are some before it
abbrev pub last_row : (from : ℕ) → List ColumnData → ℕ
last_row from [] = from
last_row from (c ∷ cs) = length c.values

-- ---- what lines add to them

-- all of them
abbrev pub all_parts : StoreData → List PartData
all_parts s = and_current s.ended s.current

-- the open part has ended
abbrev pub ended_all : StoreData → StoreData
ended_all s = record { ended = all_parts s; current = None }

-- the open part with one more row
abbrev pub with_words : StoreData → List Token → Option StoreData
with_words s ws = do
  part ← s.current
  longer ← with_row part ws
  Some (record { ended = s.ended; current = Some longer })

-- the open part with the row of the first line, of which the word `row` was passed, and the lines after it
abbrev pub with_first : StoreData → List (List ℕ) → Option (StoreData × List (List ℕ))
with_first s ls = do
  part ← s.current
  row ← first_row part.chunk.columns ls
  Some (record { ended = s.ended; current = Some (record { chunk = record { scope = part.chunk.scope; columns = row.0 }; stats = part.stats }) }, row.1)

-- the open part with this value of a statistic
abbrev pub with_told : ℕ → Stat → Precision ScalarValue → StoreData → Option StoreData
with_told i s p store = do
  part ← store.current
  Some (record { ended = store.ended; current = Some (with_statistic i s p part) })

-- the ended parts with the one at a place and the one behind it joined
abbrev pub with_joined : ℕ → StoreData → Option StoreData
with_joined i s = do
  parts ← joined_at i s.ended
  Some (record { ended = parts; current = s.current })

-- ---- where there is a store, and where no part has begun yet

abbrev pub ended_of : Option StoreData → List PartData
ended_of None = []
ended_of (Some s) = s.ended

abbrev pub current_of : Option StoreData → Option PartData
current_of None = None
current_of (Some s) = s.current

-- ---- the parts of a chunk, gone through

-- the zones from a place on are ranges of the chunk's rows from one on
pub record AreLeft (k : ChunkData) (log : LogData) (place row : ℕ) : Type 0 where
  pub there : place ≤ length log.zones
  pub within : row + sum (counts_of (drop place log.zones)) ≤ row_count k.columns
