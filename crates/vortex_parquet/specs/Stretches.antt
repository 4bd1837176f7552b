-- Stretches of a row group's rows, each of which lies in one page of each column.
use Rattle.std.specs.Prelude.{◌≡◌, ◌≤◌, ◌<◌, ◌⊎◌, ℕ, ◌+◌, ◌-◌, Bool, true, false, ◌&&◌, ◌||◌, List, [], ◌∷◌, Option, Some, None, Ok, Contains, IsTrue, length, map, nat_lt, ◌==◌, if◌then◌else◌, ⊤}
use Rattle.std.specs.List.{list_all}
use Rattle.vortex_base.specs.Data.Columns.{ColumnData}
use Rattle.vortex_base.specs.declared.types.Nullability.{Nullability}
use Rattle.vortex_parquet.specs.declared.columns.Form.{Form}
use Rattle.vortex_parquet.specs.declared.fault.Fault.TheVariants as fault
use Rattle.vortex_parquet.specs.declared.fault.ReadError.{ReadError}
use Rattle.vortex_parquet.specs.declared.fault.ReadError.TheVariants as errors
use Rattle.vortex_parquet.specs.declared.offset_index.PageLocation.{PageLocation}
use Rattle.vortex_parquet.specs.declared.stretches.PagedColumn.{PagedColumn}
use Rattle.vortex_parquet.specs.PageIndex.{IndexData}
use Rattle.vortex_parquet.specs.Pages.{ArePagesTrue, PageData, page_view, pages_of, values_of}
use Rattle.vortex_parquet.specs.Records.{StatisticsData}
use Rattle.vortex_parquet.specs.Stats.{Entries, GroupData, set_of}
use Rattle.vortex_parquet.specs.Truth.{AreTrueSets, Fit}

-- the pages of a column chunk, how their bounds are read, and whether these are in the order of the column's type
pub record PagedData : Type 0 where
  pub form : Form
  pub ordered : Bool
  pub pages : List PageData

abbrev pub paged_view : PagedColumn → PagedData
paged_view c = record { form = c.form; ordered = c.is_ordered; pages = map page_view c.pages.now }

-- a page begins at a row, and has a row at least
abbrev pub begins_at : ℕ → PageData → Bool
begins_at from p = (p.first == from) && nat_lt from p.end

-- pages stand one behind the other from a row to another
abbrev pub follow : (from to : ℕ) → List PageData → Bool
follow from to [] = from == to
follow from to (p ∷ ps) = begins_at from p && follow p.end to ps

abbrev pub all_follow : ℕ → List PagedData → Bool
all_follow rows cs = list_all (λ c. follow 0 rows c.pages) cs

-- the pages of a column chunk do
abbrev pub PagesFollow : Type 0
PagesFollow = (rows : ℕ) (n : Nullability) (x : IndexData) (ls : List PageLocation) (ps : List PageData) → pages_of rows n x ls ≡ Ok ps → follow 0 rows ps ≡ true

-- ---- what a page's statistics say of some of its rows

-- how many of them are null: known where none of the page's rows is, where each is, and where they are all its rows
abbrev pub nulls_within : (page_rows rows : ℕ) → Option ℕ → Option ℕ
nulls_within m n None = None
nulls_within m n (Some k) = if (k == 0) || (m == n) then Some k else (if k == m then Some n else None)

-- its bounds are bounds of these too, but need not be values of them
abbrev pub within : (page_rows rows : ℕ) → StatisticsData → StatisticsData
within m n s = record s { null_count = nulls_within m n s.null_count; is_max_exact = false; is_min_exact = false }

-- the set of n rows of a page of a column
abbrev pub set_within : PagedData → ℕ → PageData → Entries
set_within c n p = set_of c.form c.ordered (within (p.end - p.first) n p.statistics)

-- ---- the stretches

-- n rows from one on stand in a page of the column, and the set is that of them
pub record IsSetIn (c : PagedData) (from n : ℕ) (es : Entries) : Type 0 where
  pub page : PageData
  pub here : Contains c.pages page
  pub begins : page.first ≤ from
  pub ends : from + n ≤ page.end
  pub made : es ≡ set_within c n page

-- so of each column beside its set
abbrev pub AreSetsIn : List PagedData → (from n : ℕ) → List Entries → Type 0
AreSetsIn [] from n [] = ⊤
AreSetsIn (c ∷ cs) from n (es ∷ ss) = IsSetIn c from n es × AreSetsIn cs from n ss
AreSetsIn cs from n ss = ⊥

-- a page of a column ends at the row
pub record EndsAt (cs : List PagedData) (row : ℕ) : Type 0 where
  pub column : PagedData
  pub there : Contains cs column
  pub page : PageData
  pub here : Contains column.pages page
  pub ends : page.end ≡ row

-- a page ends there, or the last row
abbrev pub IsCut : List PagedData → (rows row : ℕ) → Type 0
IsCut cs rows row = EndsAt cs row ⊎ (row ≡ rows)

-- one stretch behind the other from a row to another, of so many rows: each has a row at least, lies in one page of each column, and ends with one, or with the last row
abbrev pub AreStretches : List PagedData → (rows from to : ℕ) → List GroupData → Type 0
AreStretches cs rows from to [] = from ≡ to
AreStretches cs rows from to (s ∷ ss) =
    (0 < s.rows) × AreSetsIn cs from s.rows s.stats × IsCut cs rows (from + s.rows) × AreStretches cs rows (from + s.rows) to ss

-- stretches of all of so many rows
abbrev pub AreStretchesOf : List PagedData → ℕ → List GroupData → Type 0
AreStretchesOf cs rows ss = AreStretches cs rows 0 rows ss

-- pages that don't stand one behind the other are refused, and no others
abbrev pub IsRefusal : List PagedData → ℕ → ReadError → Type 0
IsRefusal cs rows errors.Memory = Unit {0}
IsRefusal cs rows (errors.Fault f) = (f ≡ fault.Pages) × (all_follow rows cs ≡ false)

-- ---- how they are cut: the columns without the pages that end before a row

-- a row, or the end of the first page if that comes before it
abbrev pub sooner : ℕ → List PageData → ℕ
sooner end [] = end
sooner end (p ∷ ps) = if nat_lt p.end end then p.end else end

abbrev pub next_end : ℕ → List PagedData → ℕ
next_end end [] = end
next_end end (c ∷ cs) = next_end (sooner end c.pages) cs

-- the set of n rows of the first page
abbrev pub first_set : Form → Bool → ℕ → List PageData → Entries
first_set f o n [] = []
first_set f o n (p ∷ ps) = set_of f o (within (p.end - p.first) n p.statistics)

abbrev pub head_set : ℕ → PagedData → Entries
head_set n c = first_set c.form c.ordered n c.pages

abbrev pub pages_behind : ℕ → List PageData → List PageData
pages_behind row [] = []
pages_behind row (p ∷ ps) = if p.end == row then ps else p ∷ ps

abbrev pub behind : ℕ → PagedData → PagedData
behind row c = record { form = c.form; ordered = c.ordered; pages = pages_behind row c.pages }

-- ---- truth

-- the statistics of each page of each column are true of the column beside it
abbrev pub AreTruePages : List PagedData → List ColumnData → Type 0
AreTruePages [] [] = ⊤
AreTruePages (c ∷ cs) (k ∷ ks) = ArePagesTrue c.form c.ordered c.pages k.values × AreTruePages cs ks
AreTruePages cs ks = ⊥

-- n rows of a column from one on
abbrev pub column_of_rows : (from n : ℕ) → ColumnData → ColumnData
column_of_rows from n c = record { dtype = c.dtype; values = values_of from n c.values; size = 0 }

-- where the statistics of pages are true of columns of so many rows, so is the set of each column of a stretch of them
abbrev pub TrueStretches : Type 0
TrueStretches =
    (cs : List PagedData) (ks : List ColumnData) (rows from n : ℕ) (sets : List Entries) → AreSetsIn cs from n sets → from + n ≤ rows → IsTrue (list_all (λ c. length c.values == rows) ks)
    → AreTruePages cs ks → Fit (map (column_of_rows from n) ks) sets → AreTrueSets (map (column_of_rows from n) ks) sets
