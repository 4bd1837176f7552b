-- Worked rows of the verdicts on stretches by those on their row groups, by computing.
use Rattle.std.proofs.Common.{◌≡◌, ℕ, [], ◌∷◌, Some, None, refl}
use Rattle.vortex_predicates.specs.Footers.PagePruning.{by_group, by_groups}
use Rattle.vortex_predicates.specs.declared.parquet.page_ranges.PageRange.{PageRange}
use Rattle.vortex_prune.specs.declared.scan.verdict.Verdict.TheVariants.{Skipped, Whole, Tested}

abbrev range : ℕ → PageRange
range group = record { group = group; first = 0; end = 1 }

skipped_with_its_row_group : by_group (Some Skipped) Tested ≡ Skipped
skipped_with_its_row_group = refl

whole_with_its_row_group : by_group (Some Whole) Tested ≡ Whole
whole_with_its_row_group = refl

own_where_tested : by_group (Some Tested) Skipped ≡ Skipped
own_where_tested = refl

own_whole_where_tested : by_group (Some Tested) Whole ≡ Whole
own_whole_where_tested = refl

own_without_a_row_group : by_group None Whole ≡ Whole
own_without_a_row_group = refl

-- the second of three row groups has two stretches
each_by_its_row_group : by_groups (Skipped ∷ Tested ∷ Whole ∷ []) (range 0 ∷ range 1 ∷ range 1 ∷ range 2 ∷ []) (Tested ∷ Whole ∷ Tested ∷ Tested ∷ []) ≡ Skipped ∷ Whole ∷ Tested ∷ Whole ∷ []
each_by_its_row_group = refl
