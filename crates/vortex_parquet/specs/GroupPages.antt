-- The pages of a column chunk, from the last bytes of its file.
use Rattle.std.specs.Prelude.{ℕ, ◌-◌, List, Option, Some, None, Result, Ok, length, take, drop, nat_lt, ◌||◌, if◌then◌else◌}
use Rattle.vortex_base.specs.declared.types.Nullability.{Nullability}
use Rattle.vortex_parquet.specs.declared.columns.Leaf.{Leaf}
use Rattle.vortex_parquet.specs.declared.fault.Fault.{Fault}
use Rattle.vortex_parquet.specs.declared.group_pages.FileTail.{FileTail}
use Rattle.vortex_parquet.specs.declared.offset_index.IndexPlaces.{IndexPlaces}
use Rattle.vortex_parquet.specs.PageIndex.{column_index_of, offset_index_of, places_of}
use Rattle.vortex_parquet.specs.Pages.{PageData, one_page, pages_of}
use Rattle.vortex_parquet.specs.Reading.{◌>>=◌}
use Rattle.vortex_parquet.specs.Records.{ColumnChunkData, StatisticsData, chunk_of, is_number}
use Rattle.vortex_parquet.specs.Stats.{statistics_by}

-- the bytes of a file from a place on
pub record TailData : Type 0 where
  pub begin : ℕ
  pub bytes : List ℕ

abbrev pub tail_view : FileTail → TailData
tail_view t = record { begin = t.begin; bytes = t.bytes.now }

-- so many bytes from one on, if there are so many
abbrev pub cut_out : List ℕ → (from n : ℕ) → Option (List ℕ)
cut_out bytes from n = if nat_lt (length bytes) from || nat_lt (length bytes - from) n then None else Some (take n (drop from bytes))

-- so many bytes of the file from a place on, if they are known and among these
abbrev pub bytes_at : TailData → (place length : Option ℕ) → Option (List ℕ)
bytes_at t None n = None
bytes_at t (Some place) None = None
bytes_at t (Some place) (Some n) = if nat_lt place t.begin then None else cut_out t.bytes (place - t.begin) n

-- the pages by both indexes; a column chunk without them is one page with its statistics
unfoldable pub indexed : ℕ → Nullability → Option StatisticsData → (index offsets : Option (List ℕ)) → Result (List PageData) Fault
indexed rows n s (Some index) (Some offsets) = column_index_of index >>= λ x. offset_index_of offsets >>= λ ls. pages_of rows n x ls
indexed rows n s index offsets = Ok (one_page rows s)

-- the indexes and the statistics are used of a column chunk of the schema's physical type alone
abbrev pub pages_by : TailData → ℕ → Leaf → IndexPlaces → ColumnChunkData → Result (List PageData) Fault
pages_by t rows l places chunk = if is_number l.physical chunk.physical
    then indexed rows l.nullability (statistics_by l.nullability chunk.statistics) (bytes_at t places.column_index places.column_index_length) (bytes_at t places.offset_index places.offset_index_length)
    else Ok (one_page rows None)

-- those of the column chunk with which the bytes begin
unfoldable pub leaf_pages : TailData → ℕ → Leaf → List ℕ → Result (List PageData) Fault
leaf_pages t rows l bytes = places_of bytes >>= λ places. chunk_of bytes >>= λ chunk. pages_by t rows l places chunk
