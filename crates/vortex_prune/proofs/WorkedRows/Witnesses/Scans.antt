-- Witnesses of the clauses of scans of parts, by a binder for each and by their map.
use Rattle.std.specs.Prelude.{◌≡◌, ◌-◌, ◌<◌, ◌^◌, ℕ, All, Bool, false, true, IsTrue, List, [], ◌∷◌, Result, Ok, Err, Some, length, min, refl, slice_get}
use Rattle.std.specs.List.{AllByRecursion}
use Rattle.std.proofs.Common.{arith}
use Rattle.std.proofs.lemmas.List.Elements.{All-from_recursion}
use Rattle.vortex_base.specs.Data.Scalars.{Constant}
use Rattle.vortex_expr.specs.Meanings.Fitting.{fits_scope}
use Rattle.vortex_expr.specs.Trees.Tree.{Tree, Place, is_plain}
use Rattle.vortex_prune.proofs.Honesty.StatisticsBinders.{by_statistics, statistics_faithful, statistics_honest, statistics_quiet}
use Rattle.vortex_prune.proofs.Scanning.WholeScan.{parts_by_recursion}
use Rattle.vortex_prune.proofs.WorkedRows.CauseRows.{none_named, none_of, nothing}
use Rattle.vortex_prune.proofs.WorkedRows.ShutRows.{Fixed, IsMissing, answers, by_column, by_literal, greatest, last_is_kept, last_is_open, open_satisfier, three_zones}
use Rattle.vortex_prune.proofs.WorkedRows.Witnesses.Parts.{a, above_ten, all_true, are_parts, high, low, parts, zones}
use Rattle.vortex_zone_map.proofs.WorkedRows.Witnesses.{IsWitness, scope}
use Rattle.vortex_prune.proofs.WorkedRows.Witnesses.Pruning.{IsAskedOf, answered_is_not_refused, asked, built_in, mixed_is_not_skipped, none_for_one, number_asked, open_is_not_memory, prune_kept_closed, shut}
use Rattle.vortex_prune.proofs.WorkedRows.Witnesses.Ranges.{Rows, lossy, lossy_is_not_all, six_are_not_two}
use Rattle.vortex_prune.specs.Binding.PartAnswers.{part_values}
use Rattle.vortex_prune.specs.Binding.PartBinder.{IsNullOf, part_answer}
use Rattle.vortex_prune.specs.Part.{AreParts, IsTruePart, PartData, zone_of}
use Rattle.vortex_prune.specs.Scanning.Complete.{SkipsExactly}
use Rattle.vortex_prune.specs.Scanning.ScanRefusals.{AreClosed, KeptAreClosed, faithful_causes, scan_causes}
use Rattle.vortex_prune.specs.Scanning.Selection.{AreByStatistics, AreFaithful, AreHonest, answered, any_binder, full, selected_rows, skipped_parts, tested_rows, whole_parts}
use Rattle.vortex_prune.specs.Scanning.ZoneScans.{IsShutIfKept, zone_causes}
use Rattle.vortex_zone_map.specs.Zone.{AreZonesOf}
use Rattle.vortex_zone_map.specs.ZoneMaps.{MapData, zone_map}
use Rattle.vortex_rewrite.specs.Answers.{IsMemory}
use Rattle.vortex_rewrite.specs.Causes.{Causes, IsRefusal}
use Rattle.vortex_rewrite.specs.Rewriting.Falsifiers.{falsifier, node, reduce_balanced, satisfier}
use Rattle.vortex_rewrite.specs.Rewriting.Predicates.{is_predicate}
use Rattle.vortex_rewrite.specs.Rewriting.Proof.{Assignment}
use Rattle.vortex_rewrite.specs.Rewriting.ReadOnce.{has_disjoint_ands}
use Rattle.vortex_stats.specs.declared.error.BinderFault.TheVariants.{Own}
use Rattle.vortex_stats.specs.declared.error.StatsError.{StatsError}
use Rattle.vortex_stats.specs.declared.error.StatsError.TheVariants.{Binder, NotPredicate, OpenProof}

-- ---- by the binders of the parts' own statistics

abbrev pub is_faithful_over : PartData → List Constant → ℕ → Bool
is_faithful_over p row n = true

abbrev pub value : PartData → List Constant → ℕ → Assignment
value p row n = part_values p

abbrev pub can_fault : PartData → ℕ → Bool
can_fault p k = false

-- what a scan asks of its caller
abbrev pub IsScanOf : Tree Place → Type 0
IsScanOf p = (length parts ≡ length parts) × IsTrue (is_plain p) × All (λ (part : PartData). IsTrue (fits_scope p part.chunk.scope)) parts

fits_all : (p : Tree Place) → IsTrue (fits_scope p scope) → All (λ (part : PartData). IsTrue (fits_scope p part.chunk.scope)) parts
fits_all p fits = All-from_recursion (λ (part : PartData). IsTrue (fits_scope p part.chunk.scope)) parts (fits, (fits, (fits, tt)))

pub scanned : IsScanOf above_ten
scanned = (refl, refl, fits_all above_ten refl)

pub number_scanned : IsScanOf a
number_scanned = (refl, refl, fits_all a refl)

pub faithful : AreFaithful is_faithful_over parts parts
faithful = statistics_faithful parts

pub honest : AreHonest value parts parts
honest = statistics_honest parts (parts_by_recursion parts are_parts) all_true

pub scan_selected : IsWitness (IsScanOf above_ten × AreFaithful is_faithful_over parts parts × AreHonest value parts parts) (λ (selected : Rows). selected ≡ full above_ten parts) lossy
scan_selected = record { met = (scanned, faithful, honest); refuted = lossy_is_not_all }

pub scan_skipped : IsWitness (IsScanOf above_ten × AreFaithful is_faithful_over parts parts) (λ (skipped : List ℕ). skipped ≡ skipped_parts (falsifier [] above_ten) (answered value parts parts)) []
unfolding node reduce_balanced
scan_skipped = record { met = (scanned, faithful); refuted = none_for_one 0 }

pub scan_whole : IsWitness (IsScanOf above_ten × AreFaithful is_faithful_over parts parts) (λ (whole : List ℕ). whole ≡ whole_parts (falsifier [] above_ten) (satisfier [] above_ten) (answered value parts parts)) []
unfolding node reduce_balanced
scan_whole = record { met = (scanned, faithful); refuted = none_for_one 2 }

pub scan_kept : IsWitness (IsScanOf above_ten × AreFaithful is_faithful_over parts parts) (λ (selected : Rows). selected ≡ selected_rows (falsifier [] above_ten) (satisfier [] above_ten) above_ten (answered value parts parts)) lossy
unfolding node reduce_balanced
scan_kept = record { met = (scanned, faithful); refuted = lossy_is_not_all }

pub scan_evaluated : IsWitness (IsScanOf above_ten × AreFaithful is_faithful_over parts parts)
    (λ (n : ℕ). n ≡ min (tested_rows (falsifier [] above_ten) (satisfier [] above_ten) (answered value parts parts)) (2 ^ 64 - 1)) 6
unfolding node reduce_balanced
scan_evaluated = record { met = (scanned, faithful); refuted = six_are_not_two }

pub scan_complete : IsWitness (IsScanOf above_ten × (built_in ≡ []) × AreFaithful is_faithful_over parts parts × AreByStatistics value parts parts × IsTrue (has_disjoint_ands above_ten))
    (λ (skipped : List ℕ). SkipsExactly above_ten parts skipped) (0 ∷ 1 ∷ [])
scan_complete = record { met = (scanned, refl, faithful, by_statistics parts, refl); refuted = mixed_is_not_skipped }

pub scan_memory : IsWitness (IsScanOf above_ten × IsTrue (is_predicate above_ten) × (built_in ≡ []) × AreFaithful is_faithful_over parts parts × ((k : ℕ) → any_binder can_fault parts k ≡ false)) (λ (e : StatsError). IsMemory e) OpenProof
scan_memory = record { met = (scanned, refl, refl, faithful, statistics_quiet parts); refuted = open_is_not_memory }

pub scan_not_predicate : IsWitness (IsScanOf a × (is_predicate a ≡ false)) (λ (answer : Result Rows StatsError). answer ≡ Err NotPredicate) (Ok [])
scan_not_predicate = record { met = (number_scanned, refl); refuted = λ h. answered_is_not_refused [] NotPredicate h }

-- the fault 3, which no binder names
abbrev their_causes : Causes
their_causes = scan_causes part_answer (λ p. IsNullOf) can_fault [] above_ten parts

pub scan_refusal : IsWitness (IsScanOf above_ten × IsTrue (is_predicate above_ten)) (λ (e : StatsError). IsRefusal their_causes e) (Binder (Own 3))
scan_refusal = record {
  met = (scanned, refl);
  refuted = λ h. none_of nothing nothing (λ f. none_named (falsifier [] above_ten) f.4) (λ s. none_named (satisfier [] above_ten) s.4) h;
}

pub scan_faithful : IsWitness (IsScanOf above_ten × IsTrue (is_predicate above_ten) × AreFaithful is_faithful_over parts parts)
    (λ (e : StatsError). IsRefusal (faithful_causes part_answer (λ p. IsNullOf) can_fault value [] above_ten parts parts) e) OpenProof
unfolding node reduce_balanced
scan_faithful = record { met = (scanned, refl, faithful); refuted = λ h. none_of nothing nothing (λ f. shut f.0) (λ s. shut s.0) h }

-- the last binder has bound the falsifier to an open expression
pub scan_closed : IsWitness (IsScanOf above_ten × (1 < length (by_literal ∷ by_column ∷ []))) (λ (binders : List Fixed). AreClosed answers IsMissing greatest binders) (by_literal ∷ by_column ∷ [])
scan_closed = record { met = (scanned, omega arith); refuted = last_is_open }

-- a binder of a part that isn't skipped has bound the satisfier to an open expression
pub scan_kept_closed : IsWitness (IsScanOf above_ten × (slice_get (by_literal ∷ by_column ∷ []) 1 ≡ Some by_column)) (λ (skipped : List ℕ). KeptAreClosed answers IsMissing skipped greatest (by_literal ∷ by_column ∷ []))
    (0 ∷ [])
scan_kept_closed = record { met = (scanned, refl); refuted = last_is_kept }

-- it has no set for its only column
abbrev without_set : PartData
without_set = record { chunk = low.chunk; stats = [] }

last_is_no_part : AreParts (low ∷ without_set ∷ []) → ⊥
last_is_no_part h = shut (h 1 without_set refl).1

pub scan_are_parts : IsWitness (IsScanOf above_ten × (slice_get parts 2 ≡ Some high)) (λ (looked_at : List PartData). AreParts looked_at) (low ∷ without_set ∷ [])
scan_are_parts = record { met = (scanned, refl); refuted = last_is_no_part }

pub zones_are_parts : IsWitness (slice_get parts 2 ≡ Some high) (λ (kept : List PartData). AreParts kept) (low ∷ without_set ∷ [])
zones_are_parts = record { met = refl; refuted = last_is_no_part }

-- the map is of a scope without columns
pub zones_map_are_zones : IsWitness (slice_get zones 0 ≡ Some (zone_of low)) (λ (made : MapData). AreZonesOf made.scope zones) (zone_map [] [])
zones_map_are_zones = record { met = refl; refuted = λ h. shut (h 0 (zone_of low) refl) }

-- ---- by their map

pub scan_zones_kept_closed : IsWitness (IsAskedOf above_ten scope × (2 < length three_zones)) (λ (skipped : List ℕ). IsShutIfKept skipped open_satisfier three_zones) (0 ∷ 1 ∷ [])
scan_zones_kept_closed = prune_kept_closed

pub scan_zones_selected : IsWitness (IsAskedOf above_ten scope × AllByRecursion IsTruePart parts) (λ (selected : Rows). selected ≡ full above_ten parts) lossy
scan_zones_selected = record { met = (asked, all_true); refuted = lossy_is_not_all }

pub scan_zones_complete : IsWitness (IsAskedOf above_ten scope × (built_in ≡ []) × IsTrue (has_disjoint_ands above_ten)) (λ (skipped : List ℕ). SkipsExactly above_ten parts skipped) (0 ∷ 1 ∷ [])
scan_zones_complete = record { met = (asked, refl, refl); refuted = mixed_is_not_skipped }

pub scan_zones_memory : IsWitness (IsAskedOf above_ten scope × IsTrue (is_predicate above_ten) × (built_in ≡ [])) (λ (e : StatsError). IsMemory e) OpenProof
scan_zones_memory = record { met = (asked, refl, refl); refuted = open_is_not_memory }

pub scan_zones_not_predicate : IsWitness (IsAskedOf a scope × (is_predicate a ≡ false)) (λ (answer : Result Rows StatsError). answer ≡ Err NotPredicate) (Ok [])
scan_zones_not_predicate = record { met = (number_asked, refl); refuted = λ h. answered_is_not_refused [] NotPredicate h }

pub scan_zones_refusal : IsWitness (IsAskedOf above_ten scope × IsTrue (is_predicate above_ten)) (λ (e : StatsError). IsRefusal (zone_causes [] above_ten parts) e) OpenProof
unfolding node reduce_balanced
scan_zones_refusal = record { met = (asked, refl); refuted = λ h. none_of nothing nothing shut shut h }
