-- Witnesses of the clauses of scans by ranges of a chunk.
use Rattle.std.specs.Prelude.{◌≡◌, ◌+◌, ◌<◌, ℕ, false, IsTrue, List, [], ◌∷◌, Option, Some, None, Result, Ok, Err, length, refl}
use Rattle.std.specs.List.{AllByRecursion}
use Rattle.std.proofs.Common.{arith}
use Rattle.vortex_base.specs.declared.scalar_value.ScalarValue.{ScalarValue}
use Rattle.vortex_base.specs.Data.Columns.{ChunkData, row_of}
use Rattle.vortex_prune.proofs.WorkedRows.CauseRows.{none_of, nothing}
use Rattle.vortex_prune.proofs.WorkedRows.ShutRows.{open_satisfier, three_zones}
use Rattle.vortex_prune.proofs.WorkedRows.Witnesses.Parts.{a, above_ten, all_true, are_parts, below_two, have_scope, high, is_map, low, mixed, parts, their_map, zones}
use Rattle.vortex_zone_map.proofs.WorkedRows.Witnesses.{IsWitness, i64_type, num, scope}
use Rattle.vortex_prune.proofs.WorkedRows.Witnesses.Pruning.{IsAskedOf, answered_is_not_refused, asked, built_in, mixed_is_not_skipped, none_for_one, number_asked, open_is_not_memory, prune_kept_closed, shut}
use Rattle.vortex_prune.specs.Part.{IsTruePart, PartData}
use Rattle.vortex_prune.specs.Scanning.Complete.{ZonesSkipExactly}
use Rattle.vortex_prune.specs.Scanning.RangeScans.{AreRanges, AreRangesBehind, AreRangesFrom, has_ranges, has_ranges_from, rows_in_chunk, selected_from, tested_ranges}
use Rattle.vortex_prune.specs.Scanning.Selection.{full, satisfying, selected_rows}
use Rattle.vortex_prune.specs.Scanning.ZoneScans.{IsShutIfKept, pruning_causes, skipped_zones, statistics_answers, whole_zones}
use Rattle.vortex_zone_map.specs.ZoneMaps.{IsMapOf}
use Rattle.vortex_rewrite.specs.Answers.{IsMemory}
use Rattle.vortex_rewrite.specs.Causes.{IsRefusal}
use Rattle.vortex_rewrite.specs.Rewriting.Falsifiers.{falsifier, node, reduce_balanced, satisfier}
use Rattle.vortex_rewrite.specs.Rewriting.Predicates.{is_predicate}
use Rattle.vortex_rewrite.specs.Rewriting.ReadOnce.{has_disjoint_ands}
use Rattle.vortex_stats.specs.declared.error.StatsError.{StatsError}
use Rattle.vortex_stats.specs.declared.error.StatsError.TheVariants.{NotPredicate, OpenProof}

-- ---- chunks that the parts are ranges of

abbrev chunk : List (Option ScalarValue) → ChunkData
chunk vs = record { scope = scope; columns = record { dtype = i64_type; values = vs; size = 48 } ∷ [] }

abbrev some : ℕ → Option ScalarValue
some n = Some (num n)

-- of the whole chunk
abbrev pub six_rows : ChunkData
six_rows = chunk (some 3 ∷ None ∷ some 5 ∷ some 30 ∷ some 20 ∷ some 30 ∷ [])

-- from its second row on, and one row is left
abbrev pub eight_rows : ChunkData
eight_rows = chunk (some 40 ∷ some 3 ∷ None ∷ some 5 ∷ some 30 ∷ some 20 ∷ some 30 ∷ some 50 ∷ [])

abbrev pub RowsStandFrom : ChunkData → (from : ℕ) → PartData → ℕ → Type 0
RowsStandFrom k from part i = row_of i part.chunk.columns ≡ row_of (from + i) k.columns

of_six : AreRangesFrom six_rows 0 parts
of_six = (
  below_two (RowsStandFrom six_rows 0 low) refl refl,
  (below_two (RowsStandFrom six_rows 2 mixed) refl refl, (below_two (RowsStandFrom six_rows 4 high) refl refl, tt)),
)

of_eight : AreRangesFrom eight_rows 1 parts
of_eight = (
  below_two (RowsStandFrom eight_rows 1 low) refl refl,
  (below_two (RowsStandFrom eight_rows 3 mixed) refl refl, (below_two (RowsStandFrom eight_rows 5 high) refl refl, tt)),
)

pub are_ranges : AreRanges six_rows their_map parts
are_ranges = record { are_parts = are_parts; scoped = have_scope; is_map = is_map; ranges = of_six }

pub are_ranges_behind : AreRangesBehind eight_rows 1 their_map parts
are_ranges_behind = record { are_parts = are_parts; scoped = have_scope; is_map = is_map; ranges = of_eight }

-- ---- turned answers: the row of the tested zone is lost

abbrev pub Rows : Type 0
Rows = List (ℕ × ℕ)

abbrev pub lossy : Rows
lossy = (2, 0) ∷ (2, 1) ∷ []

-- two aren't three
pub one_is_lost : {X : Type 0} (x y u v w : X) → x ∷ y ∷ [] ≡ u ∷ v ∷ w ∷ [] → ⊥
one_is_lost x y u v w h = cc

pub lossy_is_not_all : lossy ≡ (1, 1) ∷ (2, 0) ∷ (2, 1) ∷ [] → ⊥
lossy_is_not_all h = one_is_lost (2, 0) (2, 1) (1, 1) (2, 0) (2, 1) h

pub six_are_not_two : ◌≡◌ {A = ℕ} 6 2 → ⊥
six_are_not_two h = omega (arith, h)

-- ---- the whole chunk

pub scan_ranges_selected : IsWitness (IsAskedOf above_ten scope × AreRanges six_rows their_map parts × AllByRecursion IsTruePart parts)
    (λ (selected : Rows). rows_in_chunk their_map.rows selected ≡ satisfying above_ten six_rows) lossy
scan_ranges_selected = record { met = (asked, are_ranges, all_true); refuted = λ h. one_is_lost {X = ℕ} 4 5 3 4 5 h }

pub scan_ranges_full : IsWitness (IsAskedOf above_ten scope × AreRanges six_rows their_map parts × AllByRecursion IsTruePart parts) (λ (selected : Rows). selected ≡ full above_ten parts) lossy
scan_ranges_full = record { met = (asked, are_ranges, all_true); refuted = lossy_is_not_all }

pub scan_ranges_skipped : IsWitness (IsAskedOf above_ten scope × IsMapOf zones their_map) (λ (skipped : List ℕ). skipped ≡ skipped_zones (falsifier [] above_ten) scope zones) []
unfolding node reduce_balanced
scan_ranges_skipped = record { met = (asked, is_map); refuted = none_for_one 0 }

pub scan_ranges_whole : IsWitness (IsAskedOf above_ten scope × IsMapOf zones their_map) (λ (whole : List ℕ). whole ≡ whole_zones (falsifier [] above_ten) (satisfier [] above_ten) scope zones) []
unfolding node reduce_balanced
scan_ranges_whole = record { met = (asked, is_map); refuted = none_for_one 2 }

pub scan_ranges_kept : IsWitness (IsAskedOf above_ten scope × IsMapOf zones their_map) (λ (selected : Rows). selected ≡ selected_from (falsifier [] above_ten) (satisfier [] above_ten) above_ten six_rows 0 scope zones) lossy
unfolding node reduce_balanced
scan_ranges_kept = record { met = (asked, is_map); refuted = lossy_is_not_all }

pub scan_ranges_parted : IsWitness (IsAskedOf above_ten scope × AreRangesBehind six_rows 0 their_map parts)
    (λ (selected : Rows). selected ≡ selected_rows (falsifier [] above_ten) (satisfier [] above_ten) above_ten (statistics_answers parts)) lossy
unfolding node reduce_balanced
scan_ranges_parted = record { met = (asked, are_ranges); refuted = lossy_is_not_all }

-- all rows are tested
pub scan_ranges_evaluated : IsWitness (IsAskedOf above_ten scope × IsMapOf zones their_map) (λ (n : ℕ). n ≡ tested_ranges (falsifier [] above_ten) (satisfier [] above_ten) scope zones) 6
unfolding node reduce_balanced
scan_ranges_evaluated = record { met = (asked, is_map); refuted = six_are_not_two }

pub scan_ranges_complete : IsWitness (IsAskedOf above_ten scope × IsMapOf zones their_map × (built_in ≡ []) × IsTrue (has_disjoint_ands above_ten)) (λ (skipped : List ℕ). ZonesSkipExactly above_ten zones skipped) (0 ∷ 1 ∷ [])
scan_ranges_complete = record { met = (asked, is_map, refl, refl); refuted = mixed_is_not_skipped }

pub scan_ranges_memory : IsWitness (IsAskedOf above_ten scope × IsTrue (has_ranges six_rows their_map) × IsTrue (is_predicate above_ten) × (built_in ≡ [])) (λ (e : StatsError). IsMemory e) OpenProof
scan_ranges_memory = record { met = (asked, refl, refl, refl); refuted = open_is_not_memory }

pub scan_ranges_not_predicate : IsWitness (IsAskedOf a scope × IsTrue (has_ranges six_rows their_map) × (is_predicate a ≡ false)) (λ (answer : Result Rows StatsError). answer ≡ Err NotPredicate) (Ok [])
scan_ranges_not_predicate = record { met = (number_asked, refl, refl); refuted = λ h. answered_is_not_refused [] NotPredicate h }

pub scan_ranges_refusal : IsWitness (IsAskedOf above_ten scope × IsTrue (has_ranges six_rows their_map) × IsTrue (is_predicate above_ten) × IsMapOf zones their_map)
    (λ (e : StatsError). IsRefusal (pruning_causes [] above_ten scope zones) e) OpenProof
unfolding node reduce_balanced
scan_ranges_refusal = record { met = (asked, refl, refl, is_map); refuted = λ h. none_of nothing nothing shut shut h }

pub scan_ranges_kept_closed : IsWitness (IsAskedOf above_ten scope × (2 < length three_zones)) (λ (skipped : List ℕ). IsShutIfKept skipped open_satisfier three_zones) (0 ∷ 1 ∷ [])
scan_ranges_kept_closed = prune_kept_closed

-- ---- its rows from one on

pub scan_ranges_from_kept_closed : IsWitness (IsAskedOf above_ten scope × (2 < length three_zones)) (λ (skipped : List ℕ). IsShutIfKept skipped open_satisfier three_zones) (0 ∷ 1 ∷ [])
scan_ranges_from_kept_closed = prune_kept_closed

pub scan_ranges_from_full : IsWitness (IsAskedOf above_ten scope × AreRangesBehind eight_rows 1 their_map parts × AllByRecursion IsTruePart parts) (λ (selected : Rows). selected ≡ full above_ten parts) lossy
scan_ranges_from_full = record { met = (asked, are_ranges_behind, all_true); refuted = lossy_is_not_all }

pub scan_ranges_from_skipped : IsWitness (IsAskedOf above_ten scope × IsMapOf zones their_map) (λ (skipped : List ℕ). skipped ≡ skipped_zones (falsifier [] above_ten) scope zones) []
unfolding node reduce_balanced
scan_ranges_from_skipped = record { met = (asked, is_map); refuted = none_for_one 0 }

pub scan_ranges_from_whole : IsWitness (IsAskedOf above_ten scope × IsMapOf zones their_map) (λ (whole : List ℕ). whole ≡ whole_zones (falsifier [] above_ten) (satisfier [] above_ten) scope zones) []
unfolding node reduce_balanced
scan_ranges_from_whole = record { met = (asked, is_map); refuted = none_for_one 2 }

pub scan_ranges_from_kept : IsWitness (IsAskedOf above_ten scope × IsMapOf zones their_map)
    (λ (selected : Rows). selected ≡ selected_from (falsifier [] above_ten) (satisfier [] above_ten) above_ten eight_rows 1 scope zones) lossy
unfolding node reduce_balanced
scan_ranges_from_kept = record { met = (asked, is_map); refuted = lossy_is_not_all }

pub scan_ranges_from_parted : IsWitness (IsAskedOf above_ten scope × AreRangesBehind eight_rows 1 their_map parts)
    (λ (selected : Rows). selected ≡ selected_rows (falsifier [] above_ten) (satisfier [] above_ten) above_ten (statistics_answers parts)) lossy
unfolding node reduce_balanced
scan_ranges_from_parted = record { met = (asked, are_ranges_behind); refuted = lossy_is_not_all }

pub scan_ranges_from_evaluated : IsWitness (IsAskedOf above_ten scope × IsMapOf zones their_map) (λ (n : ℕ). n ≡ tested_ranges (falsifier [] above_ten) (satisfier [] above_ten) scope zones) 6
unfolding node reduce_balanced
scan_ranges_from_evaluated = record { met = (asked, is_map); refuted = six_are_not_two }

pub scan_ranges_from_complete : IsWitness (IsAskedOf above_ten scope × IsMapOf zones their_map × (built_in ≡ []) × IsTrue (has_disjoint_ands above_ten)) (λ (skipped : List ℕ). ZonesSkipExactly above_ten zones skipped) (0 ∷ 1 ∷ [])
scan_ranges_from_complete = record { met = (asked, is_map, refl, refl); refuted = mixed_is_not_skipped }

pub scan_ranges_from_memory : IsWitness (IsAskedOf above_ten scope × IsTrue (has_ranges_from eight_rows 1 their_map) × IsTrue (is_predicate above_ten) × (built_in ≡ [])) (λ (e : StatsError). IsMemory e) OpenProof
scan_ranges_from_memory = record { met = (asked, refl, refl, refl); refuted = open_is_not_memory }

pub scan_ranges_from_not_predicate : IsWitness (IsAskedOf a scope × IsTrue (has_ranges_from eight_rows 1 their_map) × (is_predicate a ≡ false)) (λ (answer : Result Rows StatsError). answer ≡ Err NotPredicate) (Ok [])
scan_ranges_from_not_predicate = record { met = (number_asked, refl, refl); refuted = λ h. answered_is_not_refused [] NotPredicate h }

pub scan_ranges_from_refusal : IsWitness (IsAskedOf above_ten scope × IsTrue (has_ranges_from eight_rows 1 their_map) × IsTrue (is_predicate above_ten) × IsMapOf zones their_map)
    (λ (e : StatsError). IsRefusal (pruning_causes [] above_ten scope zones) e) OpenProof
unfolding node reduce_balanced
scan_ranges_from_refusal = record { met = (asked, refl, refl, is_map); refuted = λ h. none_of nothing nothing shut shut h }
