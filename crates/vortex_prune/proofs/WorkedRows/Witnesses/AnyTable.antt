-- Witnesses of the clauses of pruning and of scans by the rows of a table, whatever it was made of.
use Rattle.std.specs.Prelude.{◌≡◌, ℕ, zero, suc, true, false, IsTrue, List, [], ◌∷◌, refl}
use Rattle.std.proofs.Common.{arith, sym}
use Rattle.vortex_expr.specs.Meanings.Fitting.{fits_scope}
use Rattle.vortex_expr.specs.Trees.Tree.{Tree, Place, binary, is_plain}
use Rattle.vortex_expr.specs.declared.scalar_fn.Operator.TheVariants.{Gt}
use Rattle.vortex_prune.proofs.WorkedRows.CauseRows.{none_of, nothing}
use Rattle.vortex_prune.proofs.WorkedRows.TrueRows.{kept, kept_is_true, rows}
use Rattle.vortex_prune.proofs.WorkedRows.Witnesses.Parts.{a, above_ten, below_two, high, high_is_in_its_zone, high_is_true, is_map, lit, low, low_is_in_its_zone, low_is_true, mixed, mixed_is_in_its_zone, mixed_is_true, their_map, zones}
use Rattle.vortex_zone_map.proofs.WorkedRows.Witnesses.{IsWitness, scope}
use Rattle.vortex_prune.proofs.WorkedRows.Witnesses.Pruning.{IsAskedOf, asked, shut}
use Rattle.vortex_prune.proofs.WorkedRows.Witnesses.Ranges.{Rows, RowsStandFrom, eight_rows, lossy, lossy_is_not_all, one_is_lost, six_rows}
use Rattle.vortex_prune.proofs.ZoneMaps.TrueRows.{zones_have_true_rows}
use Rattle.vortex_prune.specs.Part.{zone_of}
use Rattle.vortex_prune.specs.Scanning.RangeScans.{has_ranges, has_ranges_from, rows_in_chunk, satisfying_ranges}
use Rattle.vortex_prune.specs.Scanning.Selection.{is_skipped, is_whole, places_where, satisfying}
use Rattle.vortex_prune.specs.Scanning.TrueRows.{AreTrueRanges, EachRowOf, IsTrueRow}
use Rattle.vortex_prune.specs.Scanning.ZoneScans.{most_causes}
use Rattle.vortex_prune.specs.declared.scan.verdict.Verdict.{Verdict}
use Rattle.vortex_prune.specs.declared.scan.verdict.Verdict.TheVariants.{Skipped, Whole}
use Rattle.vortex_rewrite.specs.Causes.{IsRefusal}
use Rattle.vortex_rewrite.specs.Rewriting.Falsifiers.{falsifier, node, reduce_balanced, satisfier}
use Rattle.vortex_rewrite.specs.Rewriting.Predicates.{is_predicate}
use Rattle.vortex_stats.specs.declared.error.StatsError.{StatsError}
use Rattle.vortex_stats.specs.declared.error.StatsError.TheVariants.{OpenProof}
use mathlib.Core.Bool.{true≢false}

-- ---- a footer that no zones have: of the rows 1, null and 10 it leaves open whether all are null

abbrev above_five : Tree Place
above_five = binary Gt a (lit 5)

-- its zone is skipped, though 10 satisfies the predicate
pub prune_by_skipped_sound : IsWitness
    (IsTrue (is_predicate above_five) × IsTrue (is_plain above_five) × IsTrue (fits_scope above_five kept.scope) × (falsifier [] above_five ≡ falsifier [] above_five))
    (λ (vs : List Verdict). EachRowOf false above_five kept (places_where is_skipped vs)) (Skipped ∷ [])
prune_by_skipped_sound = record { met = (refl, refl, refl, refl); refuted = λ h. true≢false (h 0 rows kept_is_true (0, omega arith, refl) 2 (omega arith)) }

-- it is whole, though null doesn't
pub prune_by_whole_sound : IsWitness
    (IsTrue (is_predicate above_five) × IsTrue (is_plain above_five) × IsTrue (fits_scope above_five kept.scope) × (satisfier [] above_five ≡ satisfier [] above_five))
    (λ (vs : List Verdict). EachRowOf true above_five kept (places_where is_whole vs)) (Whole ∷ [])
prune_by_whole_sound = record { met = (refl, refl, refl, refl); refuted = λ h. true≢false (sym (h 0 rows kept_is_true (0, omega arith, refl) 1 (omega arith))) }

-- ---- the same of pruning and of scans by ranges

pub prune_skipped_sound : IsWitness (IsAskedOf above_five kept.scope × IsTrueRow kept 0 rows) (λ (skipped : List ℕ). EachRowOf false above_five kept skipped) (0 ∷ [])
prune_skipped_sound = record { met = ((refl, refl), kept_is_true); refuted = λ h. true≢false (h 0 rows kept_is_true (0, omega arith, refl) 2 (omega arith)) }

pub prune_whole_sound : IsWitness (IsAskedOf above_five kept.scope × IsTrueRow kept 0 rows) (λ (whole : List ℕ). EachRowOf true above_five kept whole) (0 ∷ [])
prune_whole_sound = record { met = ((refl, refl), kept_is_true); refuted = λ h. true≢false (sym (h 0 rows kept_is_true (0, omega arith, refl) 1 (omega arith))) }

pub scan_ranges_skipped_sound : IsWitness (IsAskedOf above_five kept.scope × IsTrueRow kept 0 rows) (λ (skipped : List ℕ). EachRowOf false above_five kept skipped) (0 ∷ [])
scan_ranges_skipped_sound = prune_skipped_sound

pub scan_ranges_whole_sound : IsWitness (IsAskedOf above_five kept.scope × IsTrueRow kept 0 rows) (λ (whole : List ℕ). EachRowOf true above_five kept whole) (0 ∷ [])
scan_ranges_whole_sound = prune_whole_sound

pub scan_ranges_from_skipped_sound : IsWitness (IsAskedOf above_five kept.scope × IsTrueRow kept 0 rows) (λ (skipped : List ℕ). EachRowOf false above_five kept skipped) (0 ∷ [])
scan_ranges_from_skipped_sound = prune_skipped_sound

pub scan_ranges_from_whole_sound : IsWitness (IsAskedOf above_five kept.scope × IsTrueRow kept 0 rows) (λ (whole : List ℕ). EachRowOf true above_five kept whole) (0 ∷ [])
scan_ranges_from_whole_sound = prune_whole_sound

pub prune_at_most : IsWitness (IsAskedOf above_ten scope × IsTrue (is_predicate above_ten)) (λ (e : StatsError). IsRefusal (most_causes [] above_ten kept.rows) e) OpenProof
unfolding node reduce_balanced
prune_at_most = record { met = (asked, refl); refuted = λ h. none_of nothing nothing shut shut h }

-- ---- ranges of a chunk, of which the rows of their map are true

low_row : IsTrueRow their_map 0 low.chunk
low_row = zones_have_true_rows their_map zones 0 (zone_of low) low is_map refl low_is_in_its_zone low_is_true

mixed_row : IsTrueRow their_map 1 mixed.chunk
mixed_row = zones_have_true_rows their_map zones 1 (zone_of mixed) mixed is_map refl mixed_is_in_its_zone mixed_is_true

high_row : IsTrueRow their_map 2 high.chunk
high_row = zones_have_true_rows their_map zones 2 (zone_of high) high is_map refl high_is_in_its_zone high_is_true

six_are_true : AreTrueRanges six_rows 0 their_map
six_are_true zero n at = (low.chunk, below_two (RowsStandFrom six_rows 0 low) refl refl, low_row)
six_are_true (suc zero) n at = (mixed.chunk, below_two (RowsStandFrom six_rows 2 mixed) refl refl, mixed_row)
six_are_true (suc (suc zero)) n at = (high.chunk, below_two (RowsStandFrom six_rows 4 high) refl refl, high_row)
six_are_true (suc (suc (suc r))) n at = absurd cc

eight_are_true : AreTrueRanges eight_rows 1 their_map
eight_are_true zero n at = (low.chunk, below_two (RowsStandFrom eight_rows 1 low) refl refl, low_row)
eight_are_true (suc zero) n at = (mixed.chunk, below_two (RowsStandFrom eight_rows 3 mixed) refl refl, mixed_row)
eight_are_true (suc (suc zero)) n at = (high.chunk, below_two (RowsStandFrom eight_rows 5 high) refl refl, high_row)
eight_are_true (suc (suc (suc r))) n at = absurd cc

pub scan_ranges_rows_full : IsWitness (IsAskedOf above_ten scope × AreTrueRanges six_rows 0 their_map) (λ (selected : Rows). selected ≡ satisfying_ranges above_ten six_rows 0 0 their_map.rows) lossy
scan_ranges_rows_full = record { met = (asked, six_are_true); refuted = lossy_is_not_all }

pub scan_ranges_rows_selected : IsWitness (IsAskedOf above_ten scope × AreTrueRanges six_rows 0 their_map)
    (λ (selected : Rows). rows_in_chunk their_map.rows selected ≡ satisfying above_ten six_rows) lossy
scan_ranges_rows_selected = record { met = (asked, six_are_true); refuted = λ h. one_is_lost {X = ℕ} 4 5 3 4 5 h }

pub scan_ranges_at_most : IsWitness (IsAskedOf above_ten scope × IsTrue (has_ranges six_rows their_map) × IsTrue (is_predicate above_ten))
    (λ (e : StatsError). IsRefusal (most_causes [] above_ten their_map.rows) e) OpenProof
unfolding node reduce_balanced
scan_ranges_at_most = record { met = (asked, refl, refl); refuted = λ h. none_of nothing nothing shut shut h }

pub scan_ranges_from_rows_full : IsWitness (IsAskedOf above_ten scope × AreTrueRanges eight_rows 1 their_map) (λ (selected : Rows). selected ≡ satisfying_ranges above_ten eight_rows 0 1 their_map.rows) lossy
scan_ranges_from_rows_full = record { met = (asked, eight_are_true); refuted = lossy_is_not_all }

pub scan_ranges_from_at_most : IsWitness (IsAskedOf above_ten scope × IsTrue (has_ranges_from eight_rows 1 their_map) × IsTrue (is_predicate above_ten))
    (λ (e : StatsError). IsRefusal (most_causes [] above_ten their_map.rows) e) OpenProof
unfolding node reduce_balanced
scan_ranges_from_at_most = record { met = (asked, refl, refl); refuted = λ h. none_of nothing nothing shut shut h }
