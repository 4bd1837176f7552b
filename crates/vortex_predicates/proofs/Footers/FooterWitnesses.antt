-- Witnesses of the clauses of pruning row groups and pages by a condition: a file whose statistics are true of its rows, and one whose pages are.
use Rattle.std.specs.Prelude.{◌≡◌, ℕ, Bool, false, true, codes, pos, List, [], ◌∷◌, Option, Some, None, refl, slice_get}
use Rattle.std.proofs.Common.{arith}
use Rattle.vortex_parquet.specs.Witness.{file, group, leaf, set}
use Rattle.vortex_predicates.proofs.Footers.PageWitness.{a_paged_file_is_true}
use Rattle.vortex_predicates.proofs.RowGroups.Witnesses.{chunk, here, scope, stands}
use Rattle.vortex_predicates.specs.Footers.PagePruning.{DecidesNoFewer, MayStandByPages, PrunesPages}
use Rattle.vortex_predicates.specs.Footers.PageWitness as paged
use Rattle.vortex_predicates.specs.Footers.Pruning.{PrunesCondition}
use Rattle.vortex_predicates.specs.RowGroups.Pruning.{IsGroupAt, MayStandIn}
use Rattle.vortex_predicates.specs.declared.parquet.page_ranges.PageRange.{PageRange}
use Rattle.vortex_prune.proofs.WorkedRows.Witnesses.Pruning.{shut}
use Rattle.vortex_prune.specs.declared.scan.verdict.Verdict.{Verdict}
use Rattle.vortex_prune.specs.declared.scan.verdict.Verdict.TheVariants.{Skipped, Tested, Whole}
use Rattle.vortex_sql.specs.Schemas.{plain_schema}
use Rattle.vortex_logical.specs.declared.comparison.Comparison.TheVariants.{Gt}
use Rattle.vortex_sql.specs.declared.syntax.tree.Condition.{Condition}
use Rattle.vortex_sql.specs.declared.syntax.tree.Condition.TheVariants.{Leaf as Leaf'}
use Rattle.vortex_logical.specs.declared.logical_type.ExactKind.TheVariants.{Number}
use Rattle.vortex_sql.specs.declared.syntax.tree.Operand.TheVariants.{Column, Exact}
use Rattle.vortex_sql.specs.declared.syntax.tree.Test.TheVariants as test
use Rattle.vortex_zone_map.proofs.WorkedRows.Witnesses.{IsWitness}
use Rattle.vortex_zone_map.specs.Zone.{AreZonesOf, ZoneData}

-- ---- row groups: the only one has the rows 3, null and 7

-- qty > 5
abbrev over_five : Condition
over_five = Leaf' (record { test = test.Compare Gt (Column (codes "qty")) (Exact (record { kind = Number; top = pos 5; scale = 0 })); start = 0; end = 7 })

-- it is skipped, whose last row satisfies
prune_sound : IsWitness (IsGroupAt file 0 group × MayStandIn file scope (leaf ∷ []) group chunk) (λ (skipped : List ℕ). PrunesCondition (plain_schema scope) over_five (leaf ∷ []) file skipped []) (0 ∷ [])
prune_sound = record { met = (here, stands); refuted = λ h. (h 0 group chunk here stands).0 (0, omega arith, refl) 2 (omega arith) (λ l. None) refl }

false_is_not_true : ◌≡◌ {A = Option Bool} (Some false) (Some true) → ⊥
false_is_not_true h = cc

-- it is whole, whose first row doesn't
prune_sound_of_whole : IsWitness (IsGroupAt file 0 group × MayStandIn file scope (leaf ∷ []) group chunk) (λ (whole : List ℕ). PrunesCondition (plain_schema scope) over_five (leaf ∷ []) file [] whole) (0 ∷ [])
prune_sound_of_whole = record { met = (here, stands); refuted = λ h. false_is_not_true ((h 0 group chunk here stands).1 (0, omega arith, refl) 0 (omega arith) (λ l. None)) }

abbrev zone : ZoneData
zone = record { rows = 3; stats = set ∷ [] }

abbrev without_set : ZoneData
without_set = record { rows = 3; stats = [] }

-- a zone has no set for the only column
prune_fit : IsWitness (slice_get (zone ∷ []) 0 ≡ Some zone) (λ (zones : List ZoneData). AreZonesOf scope zones) (without_set ∷ [])
prune_fit = record { met = refl; refuted = λ h. shut (h 0 without_set refl) }

-- ---- pages: the only row group is cut into two stretches, of which the second has nulls alone

abbrev first : PageRange
first = record { group = 0; first = 0; end = 3 }

abbrev second : PageRange
second = record { group = 0; first = 3; end = 5 }

-- s IS NULL
abbrev no_text : Condition
no_text = Leaf' (record { test = test.IsNull (Column (codes "s")); start = 0; end = 9 })

-- the stretch of nulls is skipped
prune_pages_sound : IsWitness
    ((slice_get paged.ranges 1 ≡ Some second) × IsGroupAt paged.file 0 paged.group × MayStandByPages paged.tail paged.file paged.scope (paged.leaf ∷ []) paged.group paged.chunk)
    (λ (skipped : List ℕ). PrunesPages (plain_schema paged.scope) no_text paged.tail (paged.leaf ∷ []) paged.file paged.ranges skipped []) (1 ∷ [])
prune_pages_sound = record {
  met = (refl, a_paged_file_is_true.here, a_paged_file_is_true.truth);
  refuted = λ h. (h 1 second paged.group paged.chunk refl a_paged_file_is_true.here a_paged_file_is_true.truth).0 (0, omega arith, refl) 3 (omega arith) (omega arith) (λ l. None) refl;
}

-- the one with texts is whole
prune_pages_sound_of_whole : IsWitness
    ((slice_get paged.ranges 0 ≡ Some first) × IsGroupAt paged.file 0 paged.group × MayStandByPages paged.tail paged.file paged.scope (paged.leaf ∷ []) paged.group paged.chunk)
    (λ (whole : List ℕ). PrunesPages (plain_schema paged.scope) no_text paged.tail (paged.leaf ∷ []) paged.file paged.ranges [] whole) (0 ∷ [])
prune_pages_sound_of_whole = record {
  met = (refl, a_paged_file_is_true.here, a_paged_file_is_true.truth);
  refuted = λ h. false_is_not_true ((h 0 first paged.group paged.chunk refl a_paged_file_is_true.here a_paged_file_is_true.truth).1 (0, omega arith, refl) 0 (omega arith) (omega arith) (λ l. None));
}

not_skipped : ◌≡◌ {A = Option Verdict} (Some Tested) (Some Skipped) → ⊥
not_skipped h = cc

not_whole : ◌≡◌ {A = Option Verdict} (Some Tested) (Some Whole) → ⊥
not_whole h = cc

-- the row group is skipped, and its first stretch isn't
prune_pages_no_fewer : IsWitness ((slice_get paged.ranges 0 ≡ Some first) × (slice_get (Skipped ∷ []) 0 ≡ Some Skipped)) (λ (vs : List Verdict). DecidesNoFewer (Skipped ∷ []) paged.ranges vs)
    (Tested ∷ Skipped ∷ [])
prune_pages_no_fewer = record { met = (refl, refl); refuted = λ h. not_skipped ((h 0 first refl).0 refl) }

-- it is whole, and its first stretch isn't
prune_pages_no_fewer_whole : IsWitness ((slice_get paged.ranges 0 ≡ Some first) × (slice_get (Whole ∷ []) 0 ≡ Some Whole)) (λ (vs : List Verdict). DecidesNoFewer (Whole ∷ []) paged.ranges vs)
    (Tested ∷ Whole ∷ [])
prune_pages_no_fewer_whole = record { met = (refl, refl); refuted = λ h. not_whole ((h 0 first refl).1 refl) }
