-- Pages whose statistics are true: a column of bytes in two pages, of which the second is null.
use Rattle.std.specs.Prelude.{◌≡◌, ℕ, true, false, codes, List, [], ◌∷◌, Some, None, Ok, map}
use Rattle.vortex_base.specs.declared.dtype.DType.TheVariants as dtype
use Rattle.vortex_base.specs.declared.pvalue.PValue.TheVariants as number
use Rattle.vortex_base.specs.declared.scalar_value.ScalarValue.TheVariants as value
use Rattle.vortex_base.specs.declared.types.Nullability.TheVariants.{Nullable}
use Rattle.vortex_base.specs.Data.Columns.{ColumnData}
use Rattle.vortex_stats.specs.declared.precision.Precision.TheVariants.{Exact, Inexact, Absent}
use Rattle.vortex_stats.specs.declared.stat.Stat.TheVariants.{Max, Min, NullCount}
use Rattle.vortex_parquet.specs.declared.columns.Form.TheVariants as form
use Rattle.vortex_parquet.specs.declared.offset_index.PageLocation.{PageLocation}
use Rattle.vortex_parquet.specs.PageIndex.{IndexData, column_index_of, offset_index_of}
use Rattle.vortex_parquet.specs.Pages.{PageData, all_null, bounded, pages_of}
use Rattle.vortex_parquet.specs.Stats.{Entries, GroupData}
use Rattle.vortex_parquet.specs.Stretches.{AreStretchesOf, AreTruePages, PagedData, column_of_rows}
use Rattle.vortex_parquet.specs.Truth.{AreTrueSets}

abbrev pub index_bytes : List ℕ
index_bytes = 25 ∷ 33 ∷ 2 ∷ 1 ∷ 25 ∷ 40 ∷ 1 ∷ 97 ∷ 0 ∷ 25 ∷ 40 ∷ 1 ∷ 99 ∷ 0 ∷ 21 ∷ 0 ∷ 25 ∷ 38 ∷ 2 ∷ 4 ∷ 0 ∷ []

abbrev pub index : IndexData
index = record { null_pages = false ∷ true ∷ []; mins = codes "a" ∷ [] ∷ []; maxes = codes "c" ∷ [] ∷ []; null_counts = Some 1 ∷ Some 2 ∷ [] }

abbrev pub offset_bytes : List ℕ
offset_bytes = 25 ∷ 44 ∷ 22 ∷ 8 ∷ 21 ∷ 20 ∷ 22 ∷ 0 ∷ 0 ∷ 22 ∷ 28 ∷ 21 ∷ 10 ∷ 22 ∷ 6 ∷ 0 ∷ 0 ∷ []

abbrev pub locations : List PageLocation
locations = record { offset = 4; size = 10; first_row = 0 } ∷ record { offset = 14; size = 5; first_row = 3 } ∷ []

abbrev pub first : PageData
first = record { first = 0; end = 3; statistics = bounded (Some (codes "a")) (Some (codes "c")) (Some 1) }

abbrev pub second : PageData
second = record { first = 3; end = 5; statistics = all_null 2 }

abbrev pub column : PagedData
column = record { form = form.Binary; ordered = true; pages = first ∷ second ∷ [] }

abbrev pub rows : ColumnData
rows = record { dtype = dtype.Binary Nullable; values = Some (value.Binary (codes "a")) ∷ None ∷ Some (value.Binary (codes "c")) ∷ None ∷ None ∷ []; size = 0 }

abbrev pub first_set : Entries
first_set = (Max, Inexact (value.Binary (codes "c"))) ∷ (Min, Inexact (value.Binary (codes "a"))) ∷ (NullCount, Exact (value.Primitive (number.U64 1))) ∷ []

abbrev pub second_set : Entries
second_set = (Max, Absent) ∷ (Min, Absent) ∷ (NullCount, Exact (value.Primitive (number.U64 2))) ∷ []

abbrev pub stretches : List GroupData
stretches = record { rows = 3; size = None; stats = first_set ∷ [] } ∷ record { rows = 2; size = None; stats = second_set ∷ [] } ∷ []

-- the indexes are read, the statistics of the pages are true of the rows, the row group is cut between the pages, and the sets of both stretches are true
pub record TruePages : Type 0 where
  pub index_read : column_index_of index_bytes ≡ Ok index
  pub offsets_read : offset_index_of offset_bytes ≡ Ok locations
  pub pages : pages_of 5 Nullable index locations ≡ Ok (first ∷ second ∷ [])
  pub truth : AreTruePages (column ∷ []) (rows ∷ [])
  pub cut : AreStretchesOf (column ∷ []) 5 stretches
  pub first_sets : AreTrueSets (map (column_of_rows 0 3) (rows ∷ [])) (first_set ∷ [])
  pub second_sets : AreTrueSets (map (column_of_rows 3 2) (rows ∷ [])) (second_set ∷ [])
