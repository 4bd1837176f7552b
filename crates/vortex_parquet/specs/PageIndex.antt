-- The page index: the records of a column's pages, as definitions over the fields of their structs.
use Rattle.std.specs.Prelude.{ℕ, Bool, true, false, List, [], ◌∷◌, Option, Some, Result, Ok, Err, map, ◌==◌, ◌||◌, if◌then◌else◌}
use Rattle.vortex_parquet.specs.declared.fault.Fault.{Fault}
use Rattle.vortex_parquet.specs.declared.fault.Fault.TheVariants as fault
use Rattle.vortex_parquet.specs.declared.compact.Kind.TheVariants as kind
use Rattle.vortex_parquet.specs.declared.column_index.ColumnIndex.{ColumnIndex}
use Rattle.vortex_parquet.specs.declared.offset_index.IndexPlaces.{IndexPlaces}
use Rattle.vortex_parquet.specs.declared.offset_index.PageLocation.{PageLocation}
use Rattle.vortex_parquet.specs.Reading.{◌>>=◌, Read}
use Rattle.vortex_parquet.specs.Compact.{binary_at, varint_at}
use Rattle.vortex_parquet.specs.Skip.{FieldData}
use Rattle.vortex_parquet.specs.Fields.{ItemsData, items_in, many, natural_in, natural_of, struct_of}
use Rattle.vortex_parquet.specs.Records.{required}

-- ---- struct ColumnChunk: where its indexes stand

unfoldable pub places_of : List ℕ → Result IndexPlaces Fault
places_of bytes = do
  s ← struct_of bytes
  offset_index ← natural_in s.0 4 kind.I64
  offset_index_length ← natural_in s.0 5 kind.I32
  column_index ← natural_in s.0 6 kind.I64
  column_index_length ← natural_in s.0 7 kind.I32
  Ok (record { offset_index = offset_index; offset_index_length = offset_index_length; column_index = column_index; column_index_length = column_index_length })

-- ---- struct PageLocation, and the bytes behind it

unfoldable pub location_of : List ℕ → Read PageLocation
location_of bytes = do
  s ← struct_of bytes
  first ← natural_in s.0 1 kind.I64
  offset ← required first
  second ← natural_in s.0 2 kind.I32
  size ← required second
  third ← natural_in s.0 3 kind.I64
  first_row ← required third
  Ok (record { offset = offset; size = size; first_row = first_row }, s.1)

-- struct OffsetIndex
unfoldable pub offset_index_of : List ℕ → Result (List PageLocation) Fault
offset_index_of bytes = struct_of bytes >>= λ s. items_in s.0 1 kind.Struct >>= λ l. many location_of l.count l.from

-- ---- struct ColumnIndex

-- for each page whether all its rows are null, the bytes of a lower bound and of an upper one, and how many nulls it has, where that is not below 0
pub record IndexData : Type 0 where
  pub null_pages : List Bool
  pub mins : List (List ℕ)
  pub maxes : List (List ℕ)
  pub null_counts : List (Option ℕ)

abbrev pub index_view : ColumnIndex → IndexData
index_view x = record { null_pages = x.null_pages.items; mins = map (λ s. s.now) x.mins.items; maxes = map (λ s. s.now) x.maxes.items; null_counts = x.null_counts.items }

-- a Boolean of a list: 1 is true, and 2 is false, and so is 0
unfoldable pub truth_at : List ℕ → Read Bool
truth_at [] = Err fault.Short
truth_at (b ∷ bytes) = if b == 1 then Ok (true, bytes) else (if (b == 0) || (b == 2) then Ok (false, bytes) else Err fault.Kind)

-- a number with a sign, if it is not below 0
unfoldable pub count_at : List ℕ → Read (Option ℕ)
count_at bytes = varint_at bytes >>= λ n. Ok (natural_of (Some n.0), n.1)

-- the list of Booleans in a field: its kind is that of true, or else that of false
unfoldable pub truths_in : List FieldData → ℕ → Result ItemsData Fault
truths_in fs id = items_in fs id kind.True >>= λ l. if l.count == 0 then items_in fs id kind.False else Ok l

unfoldable pub column_index_of : List ℕ → Result IndexData Fault
column_index_of bytes = do
  s ← struct_of bytes
  pages ← truths_in s.0 1
  null_pages ← many truth_at pages.count pages.from
  lower ← items_in s.0 2 kind.Binary
  mins ← many binary_at lower.count lower.from
  upper ← items_in s.0 3 kind.Binary
  maxes ← many binary_at upper.count upper.from
  counts ← items_in s.0 5 kind.I64
  null_counts ← many count_at counts.count counts.from
  Ok (record { null_pages = null_pages; mins = mins; maxes = maxes; null_counts = null_counts })
