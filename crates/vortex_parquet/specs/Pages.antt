-- The pages of a column chunk: which rows stand in each, its statistics, and when these are true.
use Rattle.std.specs.Prelude.{ℕ, ◌+◌, ◌-◌, Bool, true, false, not, ◌&&◌, ◌||◌, List, [], ◌∷◌, Option, Some, None, Result, Ok, Err, Contains, drop, length, nat_le, slice_get, take, ◌==◌, if◌then◌else◌}
use Rattle.std.specs.List.{range_with_len}
use Rattle.vortex_base.specs.declared.scalar_value.ScalarValue.{ScalarValue}
use Rattle.vortex_base.specs.declared.types.Nullability.{Nullability}
use Rattle.vortex_parquet.specs.declared.columns.Form.{Form}
use Rattle.vortex_parquet.specs.declared.fault.Fault.{Fault}
use Rattle.vortex_parquet.specs.declared.fault.Fault.TheVariants as fault
use Rattle.vortex_parquet.specs.declared.offset_index.PageLocation.{PageLocation}
use Rattle.vortex_parquet.specs.declared.pages.Page.{Page}
use Rattle.vortex_parquet.specs.PageIndex.{IndexData}
use Rattle.vortex_parquet.specs.Records.{StatisticsData, statistics_view}
use Rattle.vortex_parquet.specs.Stats.{all_of, nulls_of, or_false}
use Rattle.vortex_parquet.specs.Truth.{AreTrue}

-- the rows from the first one on and before the end stand in the page
pub record PageData : Type 0 where
  pub first : ℕ
  pub end : ℕ
  pub statistics : StatisticsData

abbrev pub page_view : Page → PageData
page_view p = record { first = p.first; end = p.end; statistics = statistics_view p.statistics }

-- ---- statistics

-- so many rows are all null
abbrev pub all_null : ℕ → StatisticsData
all_null rows = record { old_max = None; old_min = None; null_count = Some rows; max = None; min = None; is_max_exact = false; is_min_exact = false }

-- bounds that need not be values, and a number of nulls, if it is known
abbrev pub bounded : (min max : Option (List ℕ)) → Option ℕ → StatisticsData
bounded min max nulls = record { old_max = None; old_min = None; null_count = nulls; max = max; min = min; is_max_exact = false; is_min_exact = false }

abbrev pub or_none : Option (Option ℕ) → Option ℕ
or_none None = None
or_none (Some o) = o

-- a number of nulls, if there are as many rows
abbrev pub at_most : ℕ → Option ℕ → Option ℕ
at_most rows None = None
at_most rows (Some n) = if nat_le n rows then Some n else None

-- those of the page at a place, which has so many rows: of a null page the bounds say nothing, and each row is null; a page of a column that the schema has without nulls has none
abbrev pub statistics_at : Nullability → IndexData → (place rows : ℕ) → StatisticsData
statistics_at n x i rows = if or_false (slice_get x.null_pages i) then all_null rows else
    bounded (slice_get x.mins i) (slice_get x.maxes i) (nulls_of n (at_most rows (or_none (slice_get x.null_counts i))))

-- ---- rows

abbrev pub first_or : ℕ → Option PageLocation → ℕ
first_or rows None = rows
first_or rows (Some l) = l.first_row

-- the first row of the page at a place; behind the last page stands the end of the row group
abbrev pub first_at : ℕ → List PageLocation → ℕ → ℕ
first_at rows ls i = first_or rows (slice_get ls i)

-- the page at a place, which ends where the next begins, and has a row at least
unfoldable pub page_at : ℕ → Nullability → IndexData → List PageLocation → ℕ → Result PageData Fault
page_at rows n x ls i = if nat_le (first_at rows ls (i + 1)) (first_at rows ls i) then Err fault.Pages else
    Ok (record { first = first_at rows ls i; end = first_at rows ls (i + 1); statistics = statistics_at n x i (first_at rows ls (i + 1) - first_at rows ls i) })

-- the page at each place
abbrev pub pages_in : ℕ → Nullability → IndexData → List PageLocation → Result (List PageData) Fault
pages_in rows n x ls = all_of (page_at rows n x ls) (range_with_len 0 (length ls))

-- the index tells of so many pages: of their nulls too, if it tells of any
abbrev pub has_length : IndexData → ℕ → Bool
has_length x n = (length x.null_pages == n) && ((length x.mins == n) && ((length x.maxes == n) && ((length x.null_counts == 0) || (length x.null_counts == n))))

-- the pages of a column chunk of so many rows: the first begins with the first row
unfoldable pub pages_of : ℕ → Nullability → IndexData → List PageLocation → Result (List PageData) Fault
pages_of rows n x ls = if not (has_length x (length ls)) then Err fault.Pages else (
    if not (first_at rows ls 0 == 0) then Err fault.Pages else pages_in rows n x ls)

-- ---- a column chunk without a page index

abbrev pub or_nothing : Option StatisticsData → StatisticsData
or_nothing None = bounded None None None
or_nothing (Some s) = s

-- the one page for which it is taken has its statistics
abbrev pub one_page : ℕ → Option StatisticsData → List PageData
one_page rows s = if rows == 0 then [] else record { first = 0; end = rows; statistics = or_nothing s } ∷ []

-- ---- truth

-- so many values from one on
abbrev pub values_of : (from n : ℕ) → List (Option ScalarValue) → List (Option ScalarValue)
values_of from n xs = take n (drop from xs)

-- the statistics of each page are true of its rows' values
abbrev pub ArePagesTrue : Form → Bool → List PageData → List (Option ScalarValue) → Type 0
ArePagesTrue f ordered ps xs = (p : PageData) → Contains ps p → AreTrue f ordered p.statistics (values_of p.first (p.end - p.first) xs)
