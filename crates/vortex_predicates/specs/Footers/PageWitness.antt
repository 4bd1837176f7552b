-- A file whose pages have true statistics, and worked rows of where stretches stand.
use Rattle.std.specs.Prelude.{◌≡◌, ℕ, true, false, codes, drop, List, [], ◌∷◌, ◌++◌, None, Ok, Err}
use Rattle.vortex_base.specs.declared.dtype.DType.TheVariants as dtype
use Rattle.vortex_base.specs.declared.types.Nullability.TheVariants.{Nullable}
use Rattle.vortex_base.specs.Data.Columns.{ChunkData}
use Rattle.vortex_base.specs.Data.Scopes.{Named}
use Rattle.vortex_parquet.specs.declared.columns.Form.TheVariants as form
use Rattle.vortex_parquet.specs.declared.columns.Leaf.{Leaf}
use Rattle.vortex_parquet.specs.declared.meaning.LeafMeaning.TheVariants.{Plain}
use Rattle.vortex_parquet.specs.declared.fault.Fault.TheVariants as fault
use Rattle.vortex_parquet.specs.GroupPages.{TailData}
use Rattle.vortex_parquet.specs.Pages.{bounded}
use Rattle.vortex_parquet.specs.PageWitness.{column, index_bytes, offset_bytes, rows, stretches}
use Rattle.vortex_parquet.specs.Records.{FileData, RowGroupData}
use Rattle.vortex_parquet.specs.Stats.{GroupData}
use Rattle.vortex_predicates.specs.RowGroups.Pruning.{IsGroupAt}
use Rattle.vortex_predicates.specs.Footers.PagePruning.{MayStandByPages}
use Rattle.vortex_predicates.specs.Footers.PagedGroups.{AreStretchesIn, PagedGroup, chunk_pages, leaf_column, paged_groups, paged_of, ranges_from, rows_in}
use Rattle.vortex_predicates.specs.declared.parquet.page_ranges.PageRange.{PageRange}

-- ---- the witness: a column `s` of bytes in pages of 3 and 2 rows

-- the bytes of the file from the column index on, which takes 21 bytes from byte 4 on; behind it stands the offset index in 17
abbrev pub tail : TailData
tail = record { begin = 4; bytes = index_bytes ++ offset_bytes }

abbrev pub group_bytes : List ℕ
group_bytes = 25 ∷ 28 ∷ 60 ∷ 21 ∷ 12 ∷ 0 ∷ 22 ∷ 50 ∷ 21 ∷ 34 ∷ 22 ∷ 8 ∷ 21 ∷ 42 ∷ 0 ∷ 38 ∷ 10 ∷ 0 ∷ []

abbrev pub file : FileData
file = record { schema = []; orders = true ∷ []; groups = record { count = 1; from = group_bytes } }

abbrev pub group : RowGroupData
group = record { rows = 5; size = None; columns = drop 2 group_bytes ∷ [] }

abbrev pub leaf : Leaf
leaf = record { place = 0; physical = 6; form = form.Binary; meaning = Plain; nullability = Nullable }

abbrev pub scope : List Named
scope = (codes "s", dtype.Binary Nullable) ∷ []

abbrev pub chunk : ChunkData
chunk = record { scope = scope; columns = rows ∷ [] }

abbrev pub paged : PagedGroup
paged = record { rows = 5; columns = column ∷ [] }

abbrev pub ranges : List PageRange
ranges = record { group = 0; first = 0; end = 3 } ∷ record { group = 0; first = 3; end = 5 } ∷ []

-- the indexes are read from the last bytes of the file, the row group is cut between its pages, and the rows may stand in it
pub record TruePagedFile : Type 0 where
  pub pages : paged_groups tail (leaf ∷ []) 1 file ≡ Ok (paged ∷ [])
  pub cut : AreStretchesIn tail (leaf ∷ []) 1 file ranges stretches
  pub here : IsGroupAt file 0 group
  pub truth : MayStandByPages tail file scope (leaf ∷ []) group chunk

-- ---- worked rows

abbrev pub of_rows : ℕ → GroupData
of_rows n = record { rows = n; size = None; stats = [] }

-- a leaf behind the column chunks of a row group
abbrev pub missing : Leaf
missing = record { place = 1; physical = 6; form = form.Binary; meaning = Plain; nullability = Nullable }

pub record RangeExamples : Type 0 where
  pub no_stretches : ranges_from 2 7 [] ≡ []
  pub stretches : ranges_from 2 7 (of_rows 3 ∷ of_rows 1 ∷ of_rows 4 ∷ []) ≡ record { group = 2; first = 7; end = 10 } ∷ record { group = 2; first = 10; end = 11 } ∷ record { group = 2; first = 11; end = 15 } ∷ []
  pub no_rows : rows_in [] ≡ 0
  pub rows : rows_in (of_rows 3 ∷ of_rows 1 ∷ of_rows 4 ∷ []) ≡ 8
  pub no_chunk : chunk_pages tail 5 leaf None ≡ Ok (record { first = 0; end = 5; statistics = bounded None None None } ∷ [])
  pub no_chunk_of_no_rows : chunk_pages tail 0 leaf None ≡ Ok []
  pub column_there : leaf_column tail (true ∷ []) group leaf ≡ Ok column
  pub column_without_order : leaf_column tail (false ∷ true ∷ []) group leaf ≡ Ok (record { form = form.Binary; ordered = false; pages = column.pages })
  pub column_missing : leaf_column tail (false ∷ true ∷ []) group missing ≡ Ok (record { form = form.Binary; ordered = true; pages = record { first = 0; end = 5; statistics = bounded None None None } ∷ [] })
  pub columns_in_order : paged_of tail (missing ∷ leaf ∷ []) 1 (true ∷ []) group ≡ Ok (record { rows = 5; columns = record { form = form.Binary; ordered = false; pages = record { first = 0; end = 5; statistics = bounded None None None } ∷ [] } ∷ column ∷ [] })
  pub other_number_of_columns : paged_of tail (leaf ∷ []) 2 (true ∷ []) group ≡ Err fault.Columns
