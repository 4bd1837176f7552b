-- The pages of the columns that are read, of each row group of a file, and the rows where these are cut.
use Rattle.std.specs.Prelude.{◌≡◌, ℕ, ◌+◌, Bool, List, [], ◌∷◌, ◌++◌, Option, Some, None, Result, Ok, Err, length, map, slice_get, ◌==◌, if◌then◌else◌}
use Rattle.std.specs.List.{list_all}
use Rattle.vortex_parquet.specs.declared.columns.Leaf.{Leaf}
use Rattle.vortex_parquet.specs.declared.fault.Fault.{Fault}
use Rattle.vortex_parquet.specs.declared.fault.Fault.TheVariants as fault
use Rattle.vortex_parquet.specs.Fields.{many}
use Rattle.vortex_parquet.specs.GroupPages.{TailData, leaf_pages}
use Rattle.vortex_parquet.specs.Pages.{PageData, one_page, page_view}
use Rattle.vortex_parquet.specs.Reading.{◌>>=◌, Read}
use Rattle.vortex_parquet.specs.Records.{FileData, RowGroupData, row_group_of}
use Rattle.vortex_parquet.specs.Stats.{GroupData, all_of, or_false}
use Rattle.vortex_parquet.specs.Stretches.{AreStretchesOf, PagedData, all_follow}
use Rattle.vortex_predicates.specs.declared.parquet.page_ranges.PageRange.{PageRange}
use Rattle.vortex_predicates.specs.declared.parquet.paged.GroupPages.{GroupPages}
use Rattle.vortex_predicates.specs.declared.parquet.paged.LeafPages.{LeafPages}

-- ---- pages

-- how many rows a row group has, and the pages of each leaf column that is read
pub record PagedGroup : Type 0 where
  pub rows : ℕ
  pub columns : List PagedData

abbrev pub leaf_view : LeafPages → PagedData
leaf_view c = record { form = c.form; ordered = c.is_ordered; pages = map page_view c.pages.items }

abbrev pub paged_view : GroupPages → PagedGroup
paged_view g = record { rows = g.rows; columns = map leaf_view g.columns.items }

-- those of a column chunk, if there is one; else one page of which nothing is known
unfoldable pub chunk_pages : TailData → ℕ → Leaf → Option (List ℕ) → Result (List PageData) Fault
chunk_pages t rows l None = Ok (one_page rows None)
chunk_pages t rows l (Some bytes) = leaf_pages t rows l bytes

-- those of a leaf column of a row group
unfoldable pub leaf_column : TailData → List Bool → RowGroupData → Leaf → Result PagedData Fault
leaf_column t orders g l = chunk_pages t g.rows l (slice_get g.columns l.place) >>= λ ps. Ok (record { form = l.form; ordered = or_false (slice_get orders l.place); pages = ps })

-- those of each leaf column that is read, of a file with so many leaf columns
unfoldable pub paged_of : TailData → List Leaf → ℕ → List Bool → RowGroupData → Result PagedGroup Fault
paged_of t ls count orders g =
    if length g.columns == count then (all_of (leaf_column t orders g) ls >>= λ cs. Ok (record { rows = g.rows; columns = cs })) else Err fault.Columns

-- the same of the row group with which the bytes begin, and the bytes behind it
unfoldable pub paged_at : TailData → List Leaf → ℕ → List Bool → List ℕ → Read PagedGroup
paged_at t ls count orders bytes = row_group_of bytes >>= λ g. paged_of t ls count orders g.0 >>= λ p. Ok (p, g.1)

-- those of each row group of a file, from the file's last bytes
unfoldable pub paged_groups : TailData → List Leaf → ℕ → FileData → Result (List PagedGroup) Fault
paged_groups t ls count file = many (paged_at t ls count file.orders) file.groups.count file.groups.from

-- ---- stretches

-- the pages of each column stand one behind the other
abbrev pub all_groups_follow : List PagedGroup → Bool
all_groups_follow gs = list_all (λ g. all_follow g.rows g.columns) gs

-- how many rows stretches have
abbrev pub rows_in : List GroupData → ℕ
rows_in [] = 0
rows_in (s ∷ ss) = s.rows + rows_in ss

-- where stretches stand that begin with a row of the row group at a place
abbrev pub ranges_from : (group first : ℕ) → List GroupData → List PageRange
ranges_from i from [] = []
ranges_from i from (s ∷ ss) = record { group = i; first = from; end = from + s.rows } ∷ ranges_from i (from + s.rows) ss

-- where the stretches of row groups stand, of which the first one is at a place, and what is known of each: all of a row group before those of the next
abbrev pub AreStretchesFrom : ℕ → List PagedGroup → List PageRange → List GroupData → Type 0
AreStretchesFrom i [] ranges known = (ranges ≡ []) × (known ≡ [])
AreStretchesFrom i (g ∷ gs) ranges known =
    (ss : List GroupData) × (more : List PageRange) × (others : List GroupData) × AreStretchesOf g.columns g.rows ss
    × (ranges ≡ ranges_from i 0 ss ++ more) × (known ≡ ss ++ others) × AreStretchesFrom (i + 1) gs more others

-- those of the row groups of a file
pub record AreStretchesIn (t : TailData) (ls : List Leaf) (count : ℕ) (file : FileData) (ranges : List PageRange) (known : List GroupData) : Type 0 where
  pub groups : List PagedGroup
  pub are_groups : paged_groups t ls count file ≡ Ok groups
  pub are_stretches : AreStretchesFrom 0 groups ranges known
