-- Witnesses of the clauses of the call that prunes, on the zones of three parts whose statistics are true.
use Rattle.std.proofs.Common.{◌≡◌, ◌++◌, ℕ, List, [], ◌∷◌, Ok, Result, Some, ap, arith, codes, refl}
use Rattle.std.specs.Prelude.{IfOk, IsTrue}
use Rattle.std.specs.Str.{chars, is_utf8}
use Rattle.vortex_capi.proofs.WorkedRows.TableRows.{field, told}
use Rattle.vortex_capi.specs.Prunes.{Asked, IsSound, answered, asked}
use Rattle.vortex_capi.specs.Scopes.{max_depth}
use Rattle.vortex_capi.specs.declared.fault.Fault.{Fault}
use Rattle.vortex_capi.specs.declared.fault.Refusal.{Refusal}
use Rattle.vortex_capi.specs.declared.statistic.Statistic.{Statistic}
use Rattle.vortex_normal.specs.Groups.{normal}
use Rattle.vortex_normal.specs.Pushed.{all_of, comparison, comparison_of, folded, settled}
use Rattle.vortex_predicates.proofs.PredicateWitnesses.{first_place, high_is_not_there, low_is_left_out, low_is_not_there, none_there, not_the_third}
use Rattle.vortex_predicates.specs.Pruning.{FindsNoFewerWhole, SkipsNoFewer, SkipsUnsatisfiable, is_within}
use Rattle.vortex_prune.proofs.WorkedRows.ShutRows.{neither}
use Rattle.vortex_prune.proofs.WorkedRows.Witnesses.Parts.{above_ten, high, high_is_in_its_zone, high_is_true, low, low_is_in_its_zone, low_is_true, zones}
use Rattle.vortex_prune.proofs.WorkedRows.Witnesses.Pruning.{shut}
use Rattle.vortex_prune.specs.Part.{zone_of}
use Rattle.vortex_zone_map.proofs.WorkedRows.Witnesses.{IsWitness, scope}
use Rattle.vortex_rewrite.specs.Rewriting.Falsifiers.{node, reduce_balanced}
use Rattle.vortex_rewrite.specs.Rewriting.ReadOnce.{has_disjoint_ands}
use mathlib.Core.Bool.{true≢false}

-- ---- the arrays of a caller: eight statistics of one column, each exact in three zones

abbrev pub exact : List ℕ
exact = 1 ∷ 1 ∷ 1 ∷ []

-- a number of 64 bits below 256
abbrev pub wide : ℕ → List ℕ
wide n = n ∷ 0 ∷ 0 ∷ 0 ∷ 0 ∷ 0 ∷ 0 ∷ 0 ∷ []

abbrev pub three_wide : (a b c : ℕ) → List ℕ
three_wide a b c = wide a ++ (wide b ++ wide c)

abbrev pub statistics : List Statistic
statistics =
    told 0 0 exact (0 ∷ 0 ∷ 0 ∷ []) ∷ told 0 1 exact (1 ∷ 1 ∷ 1 ∷ []) ∷ told 0 2 exact (1 ∷ 1 ∷ 1 ∷ []) ∷ told 0 3 exact (three_wide 3 30 30) ∷ told 0 4 exact (three_wide 3 5 20)
    ∷ told 0 5 exact (three_wide 3 35 50) ∷ told 0 6 exact (three_wide 1 0 0) ∷ told 0 7 exact (three_wide 16 16 16) ∷ []

abbrev pub the_call : Result Asked Refusal
the_call = asked (field (97 ∷ []) 9 1 ∷ []) (2 ∷ 2 ∷ 2 ∷ []) statistics (codes "gt col a lit i64 10") 0 3

-- what it asks for
abbrev pub the_zones : Asked
the_zones = record { scope = scope; zones = zones; given = above_ten; pruned_by = above_ten }

abbrev pub answered_by : Asked → Result Asked Refusal
answered_by a = Ok a

pub asked_there : the_call ≡ answered_by the_zones
unfolding is_utf8 chars lib.Utf8.encode
asked_there = refl

-- ---- the clauses

abbrev pub fault_at : ℕ → Fault
fault_at n = record { row = n; column = 0; entry = 0 }

-- a place is told of a call that isn't refused
pub prune_told : IsWitness (◌≡◌ {A = ℕ} 0 0) (λ (new : Fault). new ≡ fault_at 0) (fault_at 1)
prune_told = record { met = refl; refuted = λ h. let same : ◌≡◌ {A = ℕ} 1 0 = ap (λ (f : Fault). f.row) h in absurd (omega arith) }

-- the zone whose rows satisfy is skipped
pub prune_sound : IsWitness ((◌≡◌ {A = ℕ} 0 0) × (the_call ≡ answered_by the_zones)) (λ (answers : List ℕ). IfOk (answered_by the_zones) (IsSound answers)) (0 ∷ 0 ∷ 1 ∷ [])
prune_sound = record {
  met = (refl, asked_there);
  refuted = λ h. true≢false ((h 2 (zone_of high) high refl high_is_in_its_zone high_is_true).0 (0, omega arith, refl) 0 (omega arith));
}

-- the one whose rows don't is whole
pub prune_sound_of_whole : IsWitness ((◌≡◌ {A = ℕ} 0 0) × (the_call ≡ answered_by the_zones)) (λ (answers : List ℕ). IfOk (answered_by the_zones) (IsSound answers)) (2 ∷ 0 ∷ 0 ∷ [])
prune_sound_of_whole = record {
  met = (refl, asked_there);
  refuted = λ h. shut ((h 0 (zone_of low) low refl low_is_in_its_zone low_is_true).1 (0, omega arith, refl) 0 (omega arith));
}

-- the first zone is read, whose only value is 3
abbrev pub first_read : List ℕ
first_read = 0 ∷ 0 ∷ 2 ∷ []

pub prune_no_fewer : IsWitness ((◌≡◌ {A = ℕ} 0 0) × (the_call ≡ answered_by the_zones)) (λ (answers : List ℕ). IfOk (answered_by the_zones) (λ a. SkipsNoFewer [] a.pruned_by a.scope a.zones (answered 1 answers))) first_read
prune_no_fewer = record { met = (refl, asked_there); refuted = low_is_not_there }

-- the last zone is read, of which each row satisfies
abbrev last_read : List ℕ
last_read = 1 ∷ 0 ∷ 0 ∷ []

pub prune_no_fewer_whole : IsWitness ((◌≡◌ {A = ℕ} 0 0) × (the_call ≡ answered_by the_zones))
    (λ (answers : List ℕ). IfOk (answered_by the_zones) (λ a. FindsNoFewerWhole [] a.pruned_by a.scope a.zones (answered 1 answers) (answered 2 answers))) last_read
prune_no_fewer_whole = record { met = (refl, asked_there); refuted = high_is_not_there }

low_is_not_there_by_form : SkipsNoFewer [] (normal above_ten) scope zones [] → ⊥
unfolding node reduce_balanced all_of comparison comparison_of folded settled
low_is_not_there_by_form h = none_there 0 (h 0 (zone_of low) refl (0, omega arith, refl))

pub prune_no_fewer_form : IsWitness ((◌≡◌ {A = ℕ} 0 0) × (the_call ≡ answered_by the_zones) × IsTrue (is_within (Some max_depth) (normal above_ten)))
    (λ (answers : List ℕ). IfOk (answered_by the_zones) (λ a. SkipsNoFewer [] (normal a.pruned_by) a.scope a.zones (answered 1 answers))) first_read
unfolding all_of comparison comparison_of folded settled
prune_no_fewer_form = record { met = (refl, asked_there, refl); refuted = low_is_not_there_by_form }

high_is_not_there_by_form : FindsNoFewerWhole [] (normal above_ten) scope zones first_place [] → ⊥
unfolding node reduce_balanced all_of comparison comparison_of folded settled
high_is_not_there_by_form h = neither not_the_third (none_there 2) (h 2 (zone_of high) refl (0, omega arith, refl))

pub prune_no_fewer_form_whole : IsWitness ((◌≡◌ {A = ℕ} 0 0) × (the_call ≡ answered_by the_zones) × IsTrue (is_within (Some max_depth) (normal above_ten)))
    (λ (answers : List ℕ). IfOk (answered_by the_zones) (λ a. FindsNoFewerWhole [] (normal a.pruned_by) a.scope a.zones (answered 1 answers) (answered 2 answers))) last_read
unfolding all_of comparison comparison_of folded settled
prune_no_fewer_form_whole = record { met = (refl, asked_there, refl); refuted = high_is_not_there_by_form }

pub prune_complete : IsWitness ((◌≡◌ {A = ℕ} 0 0) × (the_call ≡ answered_by the_zones) × IsTrue (has_disjoint_ands above_ten)) (λ (answers : List ℕ). IfOk (answered_by the_zones) (λ a. SkipsUnsatisfiable a.given a.zones (answered 1 answers))) first_read
prune_complete = record { met = (refl, asked_there, refl); refuted = low_is_left_out }

pub prune_complete_by_form : IsWitness ((◌≡◌ {A = ℕ} 0 0) × (the_call ≡ answered_by the_zones) × IsTrue (is_within (Some max_depth) (normal above_ten)) × IsTrue (has_disjoint_ands (normal above_ten))) (λ (answers : List ℕ). IfOk (answered_by the_zones) (λ a. SkipsUnsatisfiable a.given a.zones (answered 1 answers))) first_read
unfolding all_of comparison comparison_of folded settled
prune_complete_by_form = record { met = (refl, asked_there, refl, refl); refuted = low_is_left_out }
