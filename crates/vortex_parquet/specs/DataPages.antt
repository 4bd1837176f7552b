-- The data pages of a file, by its offset indexes: which rows stand in each, and where its bytes stand.
use Rattle.std.specs.Prelude.{ℕ, zero, suc, ◌+◌, not, List, [], ◌∷◌, ◌++◌, Option, Some, None, Result, Ok, Err, length, nat_le, slice_get, ◌==◌, if◌then◌else◌}
use Rattle.std.specs.List.{range_with_len}
use Rattle.vortex_parquet.specs.declared.data_pages.DataPage.{DataPage}
use Rattle.vortex_parquet.specs.declared.fault.Fault.{Fault}
use Rattle.vortex_parquet.specs.declared.fault.Fault.TheVariants as fault
use Rattle.vortex_parquet.specs.declared.offset_index.PageLocation.{PageLocation}
use Rattle.vortex_parquet.specs.GroupPages.{TailData, bytes_at}
use Rattle.vortex_parquet.specs.PageIndex.{offset_index_of, places_of}
use Rattle.vortex_parquet.specs.Pages.{first_at}
use Rattle.vortex_parquet.specs.Reading.{◌>>=◌, Read}
use Rattle.vortex_parquet.specs.Records.{FileData, RowGroupData, row_group_of}
use Rattle.vortex_parquet.specs.Stats.{all_of}

-- ---- a column chunk

-- a page before a row has the bytes of its location, and a row at least
abbrev pub data_page : (group column end : ℕ) → Option PageLocation → Result DataPage Fault
data_page i j end None = Err fault.Pages
data_page i j end (Some l) = if nat_le end l.first_row then Err fault.Pages else Ok (record { group = i; column = j; first = l.first_row; end = end; offset = l.offset; size = l.size })

-- the page at a place, which ends where the next begins
unfoldable pub data_page_at : (group column rows : ℕ) → List PageLocation → ℕ → Result DataPage Fault
data_page_at i j rows ls k = data_page i j (first_at rows ls (k + 1)) (slice_get ls k)

-- the page at each place
abbrev pub located_pages : (group column rows : ℕ) → List PageLocation → Result (List DataPage) Fault
located_pages i j rows ls = all_of (data_page_at i j rows ls) (range_with_len 0 (length ls))

-- those of an offset index, of which the first begins with the first row; without one none is known
unfoldable pub indexed_pages : (group column rows : ℕ) → Option (List ℕ) → Result (List DataPage) Fault
indexed_pages i j rows None = Ok []
indexed_pages i j rows (Some bytes) = offset_index_of bytes >>= λ ls. if not (first_at rows ls 0 == 0) then Err fault.Pages else located_pages i j rows ls

-- those of the column chunk with which the bytes begin, if its offset index is among the last bytes of the file
unfoldable pub chunk_pages : TailData → (group rows column : ℕ) → List ℕ → Result (List DataPage) Fault
chunk_pages t i rows j bytes = places_of bytes >>= λ places. indexed_pages i j rows (bytes_at t places.offset_index places.offset_index_length)

-- ---- row groups

-- those of column chunks, of which the first is that of the column at a place
unfoldable pub chunks_pages : TailData → (group rows column : ℕ) → List (List ℕ) → Result (List DataPage) Fault
chunks_pages t i rows j [] = Ok []
chunks_pages t i rows j (c ∷ cs) = chunk_pages t i rows j c >>= λ ps. chunks_pages t i rows (j + 1) cs >>= λ others. Ok (ps ++ others)

-- those of a row group, of a file with so many leaf columns
abbrev pub group_pages : TailData → (columns group : ℕ) → RowGroupData → Result (List DataPage) Fault
group_pages t columns i g = if length g.columns == columns then chunks_pages t i g.rows 0 g.columns else Err fault.Columns

-- those of the row group with which the bytes begin, and the bytes behind it
unfoldable pub group_pages_at : TailData → (columns group : ℕ) → List ℕ → Read (List DataPage)
group_pages_at t columns i bytes = row_group_of bytes >>= λ g. group_pages t columns i g.0 >>= λ ps. Ok (ps, g.1)

-- those of so many row groups, one behind the other, of which the first is that at a place
unfoldable pub groups_pages : TailData → (columns group count : ℕ) → List ℕ → Result (List DataPage) Fault
groups_pages t columns i zero bytes = Ok []
groups_pages t columns i (suc n) bytes = group_pages_at t columns i bytes >>= λ x. groups_pages t columns (i + 1) n x.1 >>= λ others. Ok (x.0 ++ others)

-- those of a file with so many leaf columns, as far as its offset indexes are among its last bytes: row group by row group, and in each column by column
unfoldable pub data_pages : TailData → (columns : ℕ) → FileData → Result (List DataPage) Fault
data_pages t columns file = groups_pages t columns 0 file.groups.count file.groups.from
