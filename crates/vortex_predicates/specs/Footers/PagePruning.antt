-- When pruning the pages of a file by a condition is sound.
use Rattle.std.specs.Prelude.{◌≡◌, ◌≤◌, ◌<◌, ◌⊎◌, ℕ, Bool, List, [], ◌∷◌, Option, Some, None, Ok, Err, Contains, map, slice_get, ⊤}
use Rattle.vortex_base.specs.declared.scalar_value.ScalarValue.{ScalarValue}
use Rattle.vortex_base.specs.Data.Columns.{ChunkData, ColumnData, IsChunk, row_count}
use Rattle.vortex_base.specs.Data.Scopes.{Named}
use Rattle.vortex_parquet.specs.declared.columns.Leaf.{Leaf}
use Rattle.vortex_parquet.specs.GroupPages.{TailData, leaf_pages}
use Rattle.vortex_parquet.specs.Pages.{ArePagesTrue, PageData}
use Rattle.vortex_parquet.specs.Records.{FileData, RowGroupData}
use Rattle.vortex_parquet.specs.Stats.{GroupData, groups_of, or_false}
use Rattle.vortex_parquet.specs.Truth.{IsTrueGroup}
use Rattle.vortex_predicates.specs.RowGroups.Pruning.{IsGroupAt, known_zone}
use Rattle.vortex_sql.specs.Pruning.{Confirmed, Refuted}
use Rattle.vortex_sql.specs.Schemas.{SchemaData}
use Rattle.vortex_sql.specs.declared.syntax.tree.Condition.{Condition}
use Rattle.vortex_predicates.specs.Conditions.Conditions.{ProvedCondition}
use Rattle.vortex_predicates.specs.Footers.PagedGroups.{AreStretchesIn, paged_groups}
use Rattle.vortex_predicates.specs.Footers.Refusals.{IsGroupFault, IsZoneRefusal}
use Rattle.vortex_prune.specs.declared.scan.verdict.Verdict.{Verdict}
use Rattle.vortex_prune.specs.declared.scan.verdict.Verdict.TheVariants.{Skipped, Whole, Tested}
use Rattle.vortex_stats.specs.declared.error.StatsError.{StatsError}
use Rattle.vortex_predicates.specs.declared.parquet.error.FooterError.{FooterError}
use Rattle.vortex_predicates.specs.declared.parquet.error.FooterError.TheVariants as error
use Rattle.vortex_predicates.specs.declared.parquet.page_ranges.PageRange.{PageRange}

-- ---- truth

-- the statistics of the pages of a column chunk, if it is there and they are read, are true of the values of their rows
abbrev pub AreTruePagesOf : TailData → ℕ → Leaf → Bool → Option (List ℕ) → List (Option ScalarValue) → Type 0
AreTruePagesOf t rows l ordered None xs = ⊤
AreTruePagesOf t rows l ordered (Some bytes) xs = (ps : List PageData) → leaf_pages t rows l bytes ≡ Ok ps → ArePagesTrue l.form ordered ps xs

-- those of each leaf column that is read of a row group, beside the columns of its rows
abbrev pub AreTrueLeaves : TailData → List Bool → RowGroupData → List Leaf → List ColumnData → Type 0
AreTrueLeaves t orders g [] [] = ⊤
AreTrueLeaves t orders g (l ∷ ls) (k ∷ ks) = AreTruePagesOf t g.rows l (or_false (slice_get orders l.place)) (slice_get g.columns l.place) k.values × AreTrueLeaves t orders g ls ks
AreTrueLeaves t orders g ls ks = ⊥

-- the rows of a chunk may stand in a row group: they are of the scope, as many, and the footer's statistics are true of them, and those of its pages by the page indexes among the last bytes of the file
pub record MayStandByPages (t : TailData) (file : FileData) (scope : List Named) (ls : List Leaf) (g : RowGroupData) (k : ChunkData) : Type 0 where
  pub is_chunk : IsChunk k
  pub scoped : k.scope ≡ scope
  pub counted : row_count k.columns ≡ g.rows
  pub by_footer : IsTrueGroup file.orders g.columns ls k.columns
  pub are_true : AreTrueLeaves t file.orders g ls k.columns

-- ---- pruning

-- whatever rows stand in a row group, if the footer's statistics and those of its pages are true of them, and whatever the leaves of the condition mean that aren't read: none of a stretch satisfies it where that is skipped, and each does where it is whole
abbrev pub PrunesPages : SchemaData → Condition → TailData → List Leaf → FileData → List PageRange → (skipped whole : List ℕ) → Type 0
PrunesPages s c t ls file ranges skipped whole =
    (i : ℕ) (r : PageRange) (g : RowGroupData) (k : ChunkData) → slice_get ranges i ≡ Some r → IsGroupAt file r.group g → MayStandByPages t file s.scope ls g k
    → (Contains skipped i → (row : ℕ) → r.first ≤ row → row < r.end → Refuted s c k.columns row)
    × (Contains whole i → (row : ℕ) → r.first ≤ row → row < r.end → Confirmed s c k.columns row)

-- ---- verdicts

-- the verdict on rows of a row group: that on the row group where it is skipped or whole, and else their own
abbrev pub by_group : Option Verdict → Verdict → Verdict
by_group (Some Skipped) own = Skipped
by_group (Some Whole) own = Whole
by_group (Some Tested) own = own
by_group None own = own

-- each by the verdict on its row group
abbrev pub by_groups : List Verdict → List PageRange → List Verdict → List Verdict
by_groups groups (r ∷ rs) (v ∷ vs) = by_group (slice_get groups r.group) v ∷ by_groups groups rs vs
by_groups groups rs vs = []

-- each stretch of a row group is skipped that is skipped by the footer, and each of one that is whole is whole
abbrev pub DecidesNoFewer : (groups : List Verdict) → List PageRange → (stretches : List Verdict) → Type 0
DecidesNoFewer groups ranges vs =
    (i : ℕ) (r : PageRange) → slice_get ranges i ≡ Some r
    → (slice_get groups r.group ≡ Some Skipped → slice_get vs i ≡ Some Skipped) × (slice_get groups r.group ≡ Some Whole → slice_get vs i ≡ Some Whole)

-- ---- refusals

-- stretches of the row groups were found, and judging them is refused
pub record AreStretchesRefused (x : ProvedCondition) (t : TailData) (ls : List Leaf) (count : ℕ) (file : FileData) (e : StatsError) : Type 0 where
  pub ranges : List PageRange
  pub known : List GroupData
  pub are_known : AreStretchesIn t ls count file ranges known
  pub refused : IsZoneRefusal x (map known_zone known) e

-- the fault that is told is the first of the row groups and their pages; else all were read
abbrev pub IsPageFault : ProvedCondition → TailData → List Leaf → ℕ → FileData → FooterError → Type 0
IsPageFault x t ls count file (error.Footer f) = (paged_groups t ls count file ≡ Err f) ⊎ IsGroupFault x (groups_of ls count file) (error.Footer f)
IsPageFault x t ls count file (error.Stats e) = AreStretchesRefused x t ls count file e ⊎ IsGroupFault x (groups_of ls count file) (error.Stats e)
IsPageFault x t ls count file error.Memory = Unit {0}
IsPageFault x t ls count file (error.Sql e) = ⊥
IsPageFault x t ls count file (error.LeftOut s e why) = ⊥
