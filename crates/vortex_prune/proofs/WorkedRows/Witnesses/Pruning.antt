-- Witnesses of the clauses of pruning by a map of zones.
use Rattle.std.specs.Prelude.{◌≡◌, ◌<◌, ℕ, false, length, slice_get, true, IsTrue, List, [], ◌∷◌, Option, Some, None, Result, Ok, Err, if◌then◌else◌, refl}
use Rattle.std.proofs.Common.{arith, sym}
use Rattle.vortex_base.specs.declared.scalar_value.ScalarValue.{ScalarValue}
use Rattle.vortex_base.specs.declared.scalar_value.ScalarValue.TheVariants as value
use Rattle.vortex_base.specs.Data.Columns.{row_of, row_count as rows_of}
use Rattle.vortex_base.specs.Data.Scalars.{Constant}
use Rattle.vortex_base.specs.Data.Scopes.{Named}
use Rattle.vortex_expr.specs.Meanings.Fitting.{fits_scope}
use Rattle.vortex_expr.specs.Meanings.Meaning.{is_true, satisfies}
use Rattle.vortex_expr.specs.Trees.Tree.{Tree, Place, binary, literal, is_plain, not}
use Rattle.vortex_expr.specs.declared.scalar_fn.Operator.TheVariants.{Or}
use Rattle.vortex_expr.specs.declared.scalar_fn.ScalarFnId.TheVariants as functions
use Rattle.vortex_prune.proofs.WorkedRows.CauseRows.{none_of, nothing}
use Rattle.vortex_prune.proofs.WorkedRows.ShutRows.{last_is_whole, last_zone_kept, neither, open_satisfier, three_zones}
use Rattle.vortex_prune.proofs.WorkedRows.Witnesses.Parts.{a, above_ten, high, high_is_in_its_zone, high_is_true, is_map, low, low_is_in_its_zone, low_is_true, mixed, their_map, zones}
use Rattle.vortex_zone_map.proofs.WorkedRows.Witnesses.{IsWitness, i64_type, num, scope}
use Rattle.vortex_prune.specs.Part.{zone_of}
use Rattle.vortex_prune.specs.Scanning.Complete.{IsBoxIn, ZonesSkipExactly}
use Rattle.vortex_prune.specs.Scanning.Selection.{is_skipped, is_whole, places_where}
use Rattle.vortex_prune.specs.Scanning.ZoneScans.{AreRowVerdicts, IsShutIfKept, IsShutIfVerdict, IsSoundPruning, kept_zones, open_causes, pruning_causes, skipped_zones, whole_zones, zone_verdicts}
use Rattle.vortex_zone_map.specs.ZoneMaps.{IsMapOf}
use Rattle.vortex_prune.specs.declared.scan.verdict.Verdict.{Verdict}
use Rattle.vortex_prune.specs.declared.scan.verdict.Verdict.TheVariants.{Skipped, Whole, Tested}
use Rattle.vortex_rewrite.specs.Answers.{IsMemory}
use Rattle.vortex_rewrite.specs.Causes.{IsRefusal, either_causes}
use Rattle.vortex_rewrite.specs.Rewriting.Falsifiers.{bool_literal, falsifier, node, reduce_balanced, satisfier}
use Rattle.vortex_rewrite.specs.Rewriting.Lawful.{IsLawful, OwnRule}
use Rattle.vortex_rewrite.specs.Rewriting.Predicates.{is_predicate}
use Rattle.vortex_rewrite.specs.Rewriting.ReadOnce.{Box, IsInOrder, IsSatisfiable, has_disjoint_ands}
use Rattle.vortex_stats.specs.declared.error.StatsError.{StatsError}
use Rattle.vortex_stats.specs.declared.error.StatsError.TheVariants.{NotPredicate, OpenProof}
use mathlib.Core.Bool.{true≢false}

-- ---- what is asked for: a plain predicate that fits the scope

abbrev pub IsAskedOf : Tree Place → List Named → Type 0
IsAskedOf p names = IsTrue (is_plain p) × IsTrue (fits_scope p names)

pub asked : IsAskedOf above_ten scope
asked = (refl, refl)

-- a column of numbers is one, too, and of another type than Bool
pub number_asked : IsAskedOf a scope
number_asked = (refl, refl)

abbrev pub built_in : List OwnRule
built_in = []

-- what is skipped, and what is whole
abbrev pub Found : Type 0
Found = List ℕ × List ℕ

-- ---- a lawful rule of a user: no row satisfies NOT of a literal that is true

abbrev pub not_true : Tree Place → Option (Tree Place)
not_true (not (literal c)) = if is_true c.value then Some (bool_literal true) else None
not_true p = None

opposite_of_true : (c : Constant) (v : Option ScalarValue) (e : Tree Place) (row : List Constant) (n : ℕ) → (if is_true v then Some (bool_literal true) else None) ≡ Some e
    → satisfies (not (literal (record { dtype = c.dtype; value = v }))) row n ≡ false
opposite_of_true c (Some (value.Bool true)) e row n h = refl
opposite_of_true c (Some (value.Bool false)) e row n h = absurd cc
opposite_of_true c (Some (value.Primitive p)) e row n h = absurd cc
opposite_of_true c (Some v) e row n h = absurd cc
opposite_of_true c None e row n h = absurd cc

never_satisfied : (p e : Tree Place) → not_true p ≡ Some e → (row : List Constant) (n : ℕ) → satisfies p row n ≡ false
never_satisfied (not (literal c)) e h row n = opposite_of_true c c.value e row n h
never_satisfied p e h row n = absurd cc

abbrev pub no_proof : Tree Place → Option (Tree Place)
no_proof p = None

pub not_true_is_lawful : IsLawful not_true no_proof
not_true_is_lawful = record {
  falsifies = λ p e h k A chunk over honest t i less. never_satisfied p e h (row_of i k.columns) (rows_of k.columns);
  satisfies = λ p e h k A chunk over honest t. absurd cc;
}

abbrev pub own_rules : List OwnRule
own_rules = record { id = functions.Not; falsifier = not_true; satisfier = no_proof; can_fault = λ k. false; is_lawful = not_true_is_lawful } ∷ []

-- without that rule the OR has no falsifier
abbrev above_or_never : Tree Place
above_or_never = binary Or above_ten (not (bool_literal true))

built_in_rules_find_none : falsifier [] above_or_never ≡ None
unfolding node reduce_balanced
built_in_rules_find_none = refl

own_rule_finds_one : skipped_zones (falsifier own_rules above_or_never) scope zones ≡ 0 ∷ []
unfolding node reduce_balanced
own_rule_finds_one = refl

pub shut : false ≡ true → ⊥
shut h = true≢false (sym h)

-- ---- pruning

pub none_for_one : (x : ℕ) → [] ≡ x ∷ [] → ⊥
none_for_one x h = cc

-- a zone with rows that satisfy is skipped
pub prune_sound : IsWitness (IsAskedOf above_ten scope × IsMapOf zones their_map) (λ (found : Found). IsSoundPruning above_ten scope zones found.0 found.1) (2 ∷ [], [])
prune_sound = record { met = (asked, is_map); refuted = λ h. true≢false ((h 2 (zone_of high) high refl high_is_in_its_zone high_is_true).0 (0, omega arith, refl) 0 (omega arith)) }

-- one without such rows is whole
pub prune_sound_of_whole : IsWitness (IsAskedOf above_ten scope × IsMapOf zones their_map) (λ (found : Found). IsSoundPruning above_ten scope zones found.0 found.1) ([], 0 ∷ [])
prune_sound_of_whole = record { met = (asked, is_map); refuted = λ h. shut ((h 0 (zone_of low) low refl low_is_in_its_zone low_is_true).1 (0, omega arith, refl) 0 (omega arith)) }

-- a satisfier with a column outside its placeholders was bound for the third zone, which isn't skipped
pub prune_kept_closed : IsWitness (IsAskedOf above_ten scope × (2 < length three_zones)) (λ (skipped : List ℕ). IsShutIfKept skipped open_satisfier three_zones) (0 ∷ 1 ∷ [])
prune_kept_closed = record { met = (asked, omega arith); refuted = last_zone_kept }

pub prune_skipped : IsWitness (IsAskedOf above_ten scope × IsMapOf zones their_map) (λ (skipped : List ℕ). skipped ≡ skipped_zones (falsifier [] above_ten) scope zones) []
unfolding node reduce_balanced
prune_skipped = record { met = (asked, is_map); refuted = none_for_one 0 }

pub prune_whole : IsWitness (IsAskedOf above_ten scope × IsMapOf zones their_map) (λ (whole : List ℕ). whole ≡ whole_zones (falsifier [] above_ten) (satisfier [] above_ten) scope zones) []
unfolding node reduce_balanced
prune_whole = record { met = (asked, is_map); refuted = none_for_one 2 }

-- the second zone is skipped, though 30 lies within its bounds
abbrev pub mixed_box : Box
mixed_box = record { low = λ i. num 5; high = λ i. num 30 }

pub mixed_box_known : IsBoxIn (zone_of mixed).stats above_ten mixed_box
mixed_box_known = ((refl, refl), tt)

pub mixed_box_ordered : IsInOrder above_ten mixed_box
mixed_box_ordered = (refl, tt)

pub thirty_satisfies : IsSatisfiable above_ten mixed_box 2
thirty_satisfies = (
  record { dtype = i64_type; value = Some (num 30) } ∷ [],
  (record { chosen = num 30; cell = refl; of_type = refl; above_low = refl; below_high = refl }, tt),
  refl,
)

pub mixed_is_not_skipped : ZonesSkipExactly above_ten zones (0 ∷ 1 ∷ []) → ⊥
mixed_is_not_skipped h = absurd ((h 1 (zone_of mixed) mixed_box refl mixed_box_known mixed_box_ordered).0 (1, omega arith, refl) thirty_satisfies)

pub prune_complete : IsWitness (IsAskedOf above_ten scope × IsMapOf zones their_map × (built_in ≡ []) × IsTrue (has_disjoint_ands above_ten)) (λ (skipped : List ℕ). ZonesSkipExactly above_ten zones skipped) (0 ∷ 1 ∷ [])
prune_complete = record { met = (asked, is_map, refl, refl); refuted = mixed_is_not_skipped }

pub open_is_not_memory : IsMemory OpenProof → ⊥
open_is_not_memory h = cc

pub prune_memory : IsWitness (IsAskedOf above_ten scope × IsTrue (is_predicate above_ten) × (built_in ≡ [])) (λ (e : StatsError). IsMemory e) OpenProof
prune_memory = record { met = (asked, refl, refl); refuted = open_is_not_memory }

pub answered_is_not_refused : {X : Type 0} (x : X) (e : StatsError) → Ok x ≡ Err e → ⊥
answered_is_not_refused x e h = cc

pub prune_not_predicate : IsWitness (IsAskedOf a scope × (is_predicate a ≡ false)) (λ (answer : Result Found StatsError). answer ≡ Err NotPredicate) (Ok ([], []))
prune_not_predicate = record { met = (number_asked, refl); refuted = λ h. answered_is_not_refused ([], []) NotPredicate h }

pub prune_refusal : IsWitness (IsAskedOf above_ten scope × IsTrue (is_predicate above_ten) × IsMapOf zones their_map) (λ (e : StatsError). IsRefusal (pruning_causes [] above_ten scope zones) e) OpenProof
unfolding node reduce_balanced
prune_refusal = record { met = (asked, refl, is_map); refuted = λ h. none_of nothing nothing shut shut h }

-- ---- pruning by proofs

tested_is_not_skipped : (vs : List Verdict) → Tested ∷ vs ≡ Skipped ∷ vs → ⊥
tested_is_not_skipped vs h = cc

pub prune_by_verdicts : IsWitness (IsMapOf zones their_map) (λ (vs : List Verdict). vs ≡ zone_verdicts (falsifier [] above_ten) (satisfier [] above_ten) scope zones) (Tested ∷ Tested ∷ Whole ∷ [])
unfolding node reduce_balanced
prune_by_verdicts = record { met = is_map; refuted = λ h. tested_is_not_skipped (Tested ∷ Whole ∷ []) h }

tested_alone : Tested ≡ Skipped → ⊥
tested_alone h = cc

-- the first row of the map's table skips its zone
pub prune_by_rows : IsWitness (slice_get their_map.rows 0 ≡ Some 2) (λ (vs : List Verdict). AreRowVerdicts (falsifier [] above_ten) (satisfier [] above_ten) their_map vs) (Tested ∷ Tested ∷ Whole ∷ [])
unfolding node reduce_balanced
prune_by_rows = record { met = refl; refuted = λ h. tested_alone (h 0 2 Tested refl refl) }

-- a satisfier with a column outside its placeholders was bound for the second zone, which isn't skipped
pub prune_by_kept_closed : IsWitness (slice_get (Skipped ∷ Whole ∷ []) 1 ≡ Some Whole) (λ (vs : List Verdict). IsShutIfVerdict open_satisfier vs) (Skipped ∷ Whole ∷ [])
prune_by_kept_closed = record { met = refl; refuted = last_is_whole }

-- by the proofs that the rule of a user takes part in
abbrev AreProofs : Type 0
AreProofs =
    IsTrue (is_predicate above_or_never) × IsTrue (is_plain above_or_never) × IsTrue (fits_scope above_or_never scope)
    × (falsifier own_rules above_or_never ≡ falsifier own_rules above_or_never) × (satisfier own_rules above_or_never ≡ satisfier own_rules above_or_never)

are_proofs : AreProofs
are_proofs = (refl, refl, refl, refl, refl)

pub prune_by_sound : IsWitness (IsMapOf zones their_map × AreProofs) (λ (vs : List Verdict). IsSoundPruning above_or_never scope zones (places_where is_skipped vs) (places_where is_whole vs)) (Tested ∷ Tested ∷ Skipped ∷ [])
prune_by_sound = record { met = (is_map, are_proofs); refuted = λ h. true≢false ((h 2 (zone_of high) high refl high_is_in_its_zone high_is_true).0 (0, omega arith, refl) 0 (omega arith)) }

pub prune_by_sound_of_whole : IsWitness (IsMapOf zones their_map × AreProofs) (λ (vs : List Verdict). IsSoundPruning above_or_never scope zones (places_where is_skipped vs) (places_where is_whole vs)) (Whole ∷ Tested ∷ Tested ∷ [])
prune_by_sound_of_whole = record { met = (is_map, are_proofs); refuted = λ h. shut ((h 0 (zone_of low) low refl low_is_in_its_zone low_is_true).1 (0, omega arith, refl) 0 (omega arith)) }

pub prune_by_complete : IsWitness
    (IsMapOf zones their_map × IsTrue (is_predicate above_ten) × IsTrue (fits_scope above_ten scope) × (falsifier [] above_ten ≡ falsifier [] above_ten) × IsTrue (has_disjoint_ands above_ten))
    (λ (vs : List Verdict). ZonesSkipExactly above_ten zones (places_where is_skipped vs)) (Skipped ∷ Skipped ∷ Whole ∷ [])
prune_by_complete = record { met = (is_map, refl, refl, refl, refl); refuted = mixed_is_not_skipped }

pub prune_by_refusal : IsWitness (IsMapOf zones their_map)
    (λ (e : StatsError). IsRefusal (either_causes (open_causes (falsifier [] above_ten) their_map.rows) (open_causes (satisfier [] above_ten) (kept_zones (falsifier [] above_ten) scope zones))) e) OpenProof
unfolding node reduce_balanced
prune_by_refusal = record { met = is_map; refuted = λ h. neither shut shut h }
