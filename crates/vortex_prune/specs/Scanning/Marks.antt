-- Marks, a truth each: of which rows of a table, or of which zones, something is true.
use Rattle.std.specs.Prelude.{◌≡◌, ℕ, ◌+◌, Bool, not, ◌&&◌, ◌||◌, List, [], ◌∷◌, ◌++◌, Option, if◌then◌else◌, slice_index}
use Rattle.vortex_base.specs.Data.Columns.{ColumnData, row_of}
use Rattle.vortex_expr.specs.Meanings.Meaning.{satisfies}
use Rattle.vortex_expr.specs.Trees.Tree.{Tree, Place}
use Rattle.vortex_prune.specs.Scanning.Selection.{row_if}
use Rattle.vortex_prune.specs.Scanning.ZoneScans.{zone_truth}
use Rattle.vortex_prune.specs.declared.scan.marks.Counts.{Counts}
use Rattle.vortex_prune.specs.declared.scan.marks.Counts.TheVariants.{Same, Each}
use Rattle.vortex_zone_map.specs.ZoneMaps.{MapData}
use Rattle.vortex_prune.specs.declared.scan.verdict.Verdict.{Verdict}
use Rattle.vortex_prune.specs.declared.scan.verdict.Verdict.TheVariants.{Skipped, Whole, Tested}

-- the marks of the places from i on, of which those stay where the test holds
abbrev pub marked : (ℕ → Bool) → (i : ℕ) → List Bool → List Bool
marked test i [] = []
marked test i (mark ∷ marks) = (mark && test i) ∷ marked test (i + 1) marks

-- what two lists of marks give together
abbrev pub paired : (Bool → Bool → Bool) → List Bool → List Bool → List Bool
paired give (a ∷ as') (b ∷ bs) = give a b ∷ paired give as' bs
paired give as' bs = []

-- those that stand in either list
abbrev pub either_marked : List Bool → List Bool → List Bool
either_marked as' bs = paired (λ a b. a || b) as' bs

-- those of the first that don't stand in the second
abbrev pub left_marked : List Bool → List Bool → List Bool
left_marked as' bs = paired (λ a b. a && not b) as' bs

-- what the row count is worth on the row at a place
abbrev pub count_at : Counts → ℕ → ℕ
count_at (Same n) r = n
count_at (Each ns) r = slice_index ns.now r

-- there is one for each row
abbrev pub HasCounts : Counts → List ℕ → Type 0
HasCounts counts rows = (r : ℕ) → count_at counts r ≡ slice_index rows r

-- an expression is true on the row at a place
abbrev pub is_true_at : Tree Place → List ColumnData → Counts → ℕ → Bool
is_true_at e cs counts r = satisfies e (row_of r cs) (count_at counts r)

-- the rows of a part that are marked, from a place in it on, as pairs
abbrev pub marked_rows : (place from : ℕ) → List Bool → List (ℕ × ℕ)
marked_rows place from [] = []
marked_rows place from (mark ∷ marks) = row_if mark place from ++ marked_rows place (from + 1) marks

-- a bound proof, if there is one, is true on the row of the zone at a place
abbrev pub is_told : Option (Tree Place) → MapData → ℕ → Bool
is_told bound m r = zone_truth bound m.table.columns r (slice_index m.rows r)

-- the verdict on a zone that is marked as skipped or not, and as whole or not
abbrev pub marked_verdict : (skipped whole : Bool) → Verdict
marked_verdict skipped whole = if skipped then Skipped else if whole then Whole else Tested

-- that on each of some zones
abbrev pub marked_verdicts : (skipped whole : List Bool) → List Verdict
marked_verdicts (a ∷ as') (b ∷ bs) = marked_verdict a b ∷ marked_verdicts as' bs
marked_verdicts as' bs = []
