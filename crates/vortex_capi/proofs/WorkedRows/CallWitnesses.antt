-- Witnesses of the clauses of calls that write statistics, of the answers of the call that prunes, and of what is read of a caller.
use Rattle.std.proofs.Common.{◌≡◌, ℕ, List, [], ◌∷◌, Err, Ok, Result, ap, arith, length, refl, ◌∙◌}
use Rattle.std.specs.Prelude.{IfOk, IsOk, MatchResult, None, Some}
use Rattle.vortex_capi.proofs.WorkedRows.TableRows.{field, lent, told}
use Rattle.vortex_capi.proofs.WorkedRows.Witnesses.{answered_by, asked_there, fault_at, first_read, the_call, the_zones}
use Rattle.vortex_capi.specs.Arrow as arrow
use Rattle.vortex_capi.specs.Checks.{IsTold, IsVerdict, StopsAt}
use Rattle.vortex_capi.specs.Measures.{measured}
use Rattle.vortex_capi.specs.Merges.{merged, together}
use Rattle.vortex_capi.specs.Prunes.{Asked, IsRefused, answers_of, asked, table_answers, zones_asked}
use Rattle.vortex_capi.specs.Refusals.{Answers}
use Rattle.vortex_capi.specs.Scopes.{schema_given}
use Rattle.vortex_capi.specs.Slots.{AreWritten, Arrays, IsRefusal, Slot, heap}
use Rattle.vortex_capi.specs.Statuses.{at_column, nowhere, status_number}
use Rattle.vortex_capi.specs.Values.{given_column}
use Rattle.vortex_capi.specs.declared.arrow.ArrowValues.{ArrowValues}
use Rattle.vortex_capi.specs.declared.fault.Fault.{Fault}
use Rattle.vortex_capi.specs.declared.fault.Refusal.{Refusal}
use Rattle.vortex_capi.specs.declared.statistic.Statistic.{Statistic}
use Rattle.vortex_capi.specs.declared.status.Status.{Status}
use Rattle.vortex_capi.specs.declared.status.Status.TheVariants.{BadFlag, BadKind, BadLine, BadName, BadStat, NoMemory}
use Rattle.vortex_capi.specs.declared.values.Values.{Values}
use Rattle.vortex_base.specs.Data.Columns.{ColumnData}
use Rattle.vortex_base.specs.declared.dtype.DType.TheVariants as dtype
use Rattle.vortex_base.specs.declared.pvalue.PValue.TheVariants as number
use Rattle.vortex_base.specs.declared.scalar_value.ScalarValue.TheVariants as value
use Rattle.vortex_base.specs.declared.types.Nullability.TheVariants.{NonNullable}
use Rattle.vortex_base.specs.declared.types.PType.TheVariants as ptype
use Rattle.vortex_normal.specs.Pushed.{all_of, any_of, comparison, comparison_of, folded, settled}
use Rattle.vortex_prune.proofs.WorkedRows.ShutRows.{neither}
use Rattle.vortex_prune.proofs.WorkedRows.Witnesses.Pruning.{shut}
use Rattle.vortex_rewrite.specs.Rewriting.Falsifiers.{node, reduce_balanced}
use Rattle.vortex_sql.specs.Schemas.{SchemaData}
use Rattle.vortex_zone_map.proofs.WorkedRows.Witnesses.{IsWitness, scope}

-- ---- what calls tell: a status, and the place of a refusal

not_zero : ◌≡◌ {A = ℕ} 6 0 → ⊥
not_zero h = absurd (omega (arith, h))

not_four : ◌≡◌ {A = ℕ} 6 4 → ⊥
not_four h = absurd (omega (arith, h))

-- another row is told than the first
other_row : (column entry : ℕ) → fault_at 1 ≡ record { row = 0; column = column; entry = entry } → ⊥
other_row column entry h = let same : ◌≡◌ {A = ℕ} 1 0 = ap (λ (f : Fault). f.row) h in absurd (omega arith)

none_for_one : (x : ℕ) (xs : List ℕ) → [] ≡ x ∷ xs → ⊥
none_for_one x xs h = cc

one_for_none : (x : ℕ) → x ∷ [] ≡ [] → ⊥
one_for_none x h = cc

-- ---- statistics that are written: none of those is that the call is to tell, or one that it isn't

abbrev holding : List ℕ → Arrays
holding known = record { known = known; ends = []; values = [] }

-- what a call is to tell, where that is refused
abbrev refused_as : Refusal → Result (List Slot) Refusal
refused_as r = Err r

abbrev one_known : Arrays
one_known = holding (1 ∷ [])

other_arrays : one_known ≡ holding [] → ⊥
other_arrays h = one_for_none 1 (ap (λ (a : Arrays). a.known) h)

-- a status other than 0, and something is written
abbrev LeavesArrays : Arrays → Type 0
LeavesArrays new = new ≡ holding []

-- ---- merging: the left table tells 5 and 7, and the right one 6 and 4

abbrev left : List Statistic
left = told 0 3 (1 ∷ 2 ∷ []) (5 ∷ 7 ∷ []) ∷ []

abbrev right : List Statistic
right = told 0 3 (1 ∷ 1 ∷ []) (6 ∷ 4 ∷ []) ∷ []

pub merge_answered : IsWitness (◌≡◌ {A = ℕ} 0 0) (λ (new : Arrays). IfOk (merged 2 0 2 left right) (λ slots. AreWritten slots (holding []) new × (2 ≡ length (heap slots)))) (holding [])
merge_answered = record { met = refl; refuted = λ h. none_for_one 1 (2 ∷ []) h.0.known }

pub merge_answers : IsWitness (◌≡◌ {A = ℕ} 0 0) (λ (call : Result (List Slot) Refusal). IsOk call) (refused_as (nowhere BadKind))
merge_answers = record { met = refl; refuted = shut }

pub merge_unchanged : IsWitness (◌≡◌ {A = ℕ} 6 0 → ⊥) LeavesArrays one_known
merge_unchanged = record { met = not_zero; refuted = other_arrays }

-- the refused statistic has no place in a second row
pub merge_refused : IsWitness ((◌≡◌ {A = ℕ} 6 0 → ⊥) × (◌≡◌ {A = ℕ} 6 4 → ⊥)) (λ (fault : Fault). IsRefusal (merged 17 0 2 left right) (holding []) 5 0 fault) (fault_at 1)
merge_refused = record { met = (not_zero, not_four); refuted = λ h. other_row 0 0 h.1 }

-- ---- the zones of one table

pub merge_zones_answered : IsWitness (◌≡◌ {A = ℕ} 0 0) (λ (new : Arrays). IfOk (together 2 0 2 left) (λ slots. AreWritten slots (holding []) new × (1 ≡ length (heap slots)))) (holding [])
merge_zones_answered = record { met = refl; refuted = λ h. none_for_one 2 [] h.0.known }

pub merge_zones_answers : IsWitness (◌≡◌ {A = ℕ} 0 0) (λ (call : Result (List Slot) Refusal). IsOk call) (refused_as (nowhere BadKind))
merge_zones_answers = merge_answers

pub merge_zones_unchanged : IsWitness (◌≡◌ {A = ℕ} 6 0 → ⊥) LeavesArrays one_known
merge_zones_unchanged = merge_unchanged

pub merge_zones_refused : IsWitness ((◌≡◌ {A = ℕ} 6 0 → ⊥) × (◌≡◌ {A = ℕ} 6 4 → ⊥)) (λ (fault : Fault). IsRefusal (together 17 0 2 left) (holding []) 5 0 fault) (fault_at 1)
merge_zones_refused = record { met = (not_zero, not_four); refuted = λ h. other_row 0 0 h.1 }

-- ---- measuring: the bytes 5 and 7, of which no statistic is asked for, and one that there isn't

abbrev bytes : Values
bytes = record { kind = 2; nullable = 0; rows = 2; size = 2; start = 0; values = lent (5 ∷ 7 ∷ []); ends = lent []; nulls = lent [] }

pub measure_answered : IsWitness (◌≡◌ {A = ℕ} 0 0) (λ (new : Arrays). IfOk (measured bytes []) (λ slots. AreWritten slots (holding []) new × (0 ≡ length (heap slots)))) one_known
measure_answered = record { met = refl; refuted = λ h. one_for_none 1 h.0.known }

pub measure_answers : IsWitness (◌≡◌ {A = ℕ} 0 0) (λ (call : Result (List Slot) Refusal). IsOk call) (refused_as (nowhere BadKind))
measure_answers = merge_answers

pub measure_unchanged : IsWitness (◌≡◌ {A = ℕ} 6 0 → ⊥) LeavesArrays one_known
measure_unchanged = merge_unchanged

pub measure_refused : IsWitness ((◌≡◌ {A = ℕ} 6 0 → ⊥) × (◌≡◌ {A = ℕ} 6 4 → ⊥)) (λ (fault : Fault). IsRefusal (measured bytes (9 ∷ [])) (holding []) 6 0 fault) (fault_at 1)
measure_refused = record { met = (not_zero, not_four); refuted = λ h. other_row 0 0 h.1 }

-- ---- the same of a column in Arrow's layout

abbrev arrow_bytes : ArrowValues
arrow_bytes = record { kind = 2; nullable = 0; offset_width = 0; rows = 2; offset = 0; size = 2; validity = lent []; values = lent (5 ∷ 7 ∷ []); offsets = lent [] }

pub measure_arrow_answered : IsWitness (◌≡◌ {A = ℕ} 0 0) (λ (new : Arrays). IfOk (arrow.measured arrow_bytes []) (λ slots. AreWritten slots (holding []) new × (0 ≡ length (heap slots)))) one_known
measure_arrow_answered = record { met = refl; refuted = λ h. one_for_none 1 h.0.known }

pub measure_arrow_answers : IsWitness (◌≡◌ {A = ℕ} 0 0) (λ (call : Result (List Slot) Refusal). IsOk call) (refused_as (nowhere BadKind))
measure_arrow_answers = merge_answers

pub measure_arrow_unchanged : IsWitness (◌≡◌ {A = ℕ} 6 0 → ⊥) LeavesArrays one_known
measure_arrow_unchanged = merge_unchanged

pub measure_arrow_refused : IsWitness ((◌≡◌ {A = ℕ} 6 0 → ⊥) × (◌≡◌ {A = ℕ} 6 4 → ⊥)) (λ (fault : Fault). IsRefusal (arrow.measured arrow_bytes (9 ∷ [])) (holding []) 6 0 fault) (fault_at 1)
measure_arrow_refused = record { met = (not_zero, not_four); refuted = λ h. other_row 0 0 h.1 }

-- ---- checking the same bytes: a zone of two rows without statistics is told to be untrue

abbrev byte_column : ColumnData
byte_column = record { dtype = dtype.Primitive ptype.U8 NonNullable; values = Some (value.Primitive (number.U8 5)) ∷ Some (value.Primitive (number.U8 7)) ∷ []; size = 2 }

no_place : (r : Refusal) → StopsAt byte_column 0 [] r → ⊥
no_place r h = absurd (omega (arith, h.within))

not_untrue : (verdict : Result (Unit {0}) Refusal) → IsVerdict (Ok byte_column) 2 0 [] verdict
    → MatchResult verdict (λ u. ◌≡◌ {A = ℕ} 12 0) (λ r. (◌≡◌ {A = ℕ} 12 (status_number r.status)) × (fault_at 0 ≡ r.fault)) → ⊥
not_untrue (Ok u) is told = absurd (omega (arith, told))
not_untrue (Err r) is told =
    let memory : r.status ≡ NoMemory → ⊥ = λ e. let four : ◌≡◌ {A = ℕ} 12 4 = told.0 ∙ ap status_number e in absurd (omega (arith, four)) in
    no_place r (is.same refl memory)

pub check_told : IsWitness (◌≡◌ {A = ℕ} 2 2) (λ (result : ℕ). IsTold (given_column bytes) 2 0 [] result (fault_at 0)) 12
check_told = record { met = refl; refuted = λ h. not_untrue h.0 h.1 h.2 }

pub check_arrow_told : IsWitness (◌≡◌ {A = ℕ} 2 2) (λ (result : ℕ). IsTold (arrow.given_column arrow_bytes) 2 0 [] result (fault_at 0)) 12
check_arrow_told = record { met = refl; refuted = λ h. not_untrue h.0 h.1 h.2 }

-- ---- the call that prunes

other_answers : first_read ≡ 1 ∷ 0 ∷ 2 ∷ [] → ⊥
other_answers h = absurd cc

pub prune_answers_answered : IsWitness ((◌≡◌ {A = ℕ} 0 0) × (the_call ≡ answered_by the_zones)) (λ (answers : List ℕ). IfOk (answered_by the_zones) (λ a. answers ≡ answers_of a)) first_read
unfolding node reduce_balanced all_of any_of comparison comparison_of folded settled
prune_answers_answered = record { met = (refl, asked_there); refuted = other_answers }

abbrev not_asked : Refusal → Result Asked Refusal
not_asked r = Err r

pub prune_answers_answers : IsWitness (◌≡◌ {A = ℕ} 0 0) (λ (call : Result Asked Refusal). IsOk call) (not_asked (nowhere BadFlag))
prune_answers_answers = record { met = refl; refuted = shut }

pub prune_answers_unchanged : IsWitness (◌≡◌ {A = ℕ} 6 0 → ⊥) (λ (new : List ℕ). new ≡ 0 ∷ []) []
prune_answers_unchanged = record { met = not_zero; refuted = none_for_one 0 [] }

no_bad_line : nowhere BadFlag ≡ nowhere BadLine → ⊥
no_bad_line h = let same : ◌≡◌ {A = Status} BadFlag BadLine = ap (λ (r : Refusal). r.status) h in cc

-- the flags are refused at no row
pub prune_answers_refused : IsWitness ((◌≡◌ {A = ℕ} 6 0 → ⊥) × (◌≡◌ {A = ℕ} 6 4 → ⊥)) (λ (fault : Fault). IsRefused (asked [] [] [] [] 2 0) 16 fault) (fault_at 1)
prune_answers_refused = record { met = (not_zero, not_four); refuted = λ h. neither (λ t. other_row 0 0 t.1) (λ t. no_bad_line t.0) h }

-- ---- what is read of a caller: a column of another kind is refused, and not its name

bad_name : ◌≡◌ {A = Status} BadName NoMemory → ⊥
bad_name h = cc

-- why something is refused, if it is
abbrev refusal_of : {X : Type 0} → Result X Refusal → Refusal
refusal_of (Ok x) = nowhere NoMemory
refusal_of (Err r) = r

bad_kind : ◌≡◌ {A = Status} BadKind BadName → ⊥
bad_kind h = cc

bad_stat : ◌≡◌ {A = Status} BadStat BadName → ⊥
bad_stat h = cc

abbrev no_schema : Refusal → Result SchemaData Refusal
no_schema r = Err r

pub schema_given_refused : IsWitness (◌≡◌ {A = Status} BadName NoMemory → ⊥) (λ (r : Refusal). Answers (λ (schema : SchemaData). schema) (no_schema r) (schema_given (field (97 ∷ []) 17 0 ∷ [])))
    (at_column BadName 0)
schema_given_refused = record { met = bad_name; refuted = λ h. bad_kind (ap (λ (read : Result SchemaData Refusal). (refusal_of read).status) (h bad_name)) }

abbrev no_answers : Refusal → Result (List ℕ) Refusal
no_answers r = Err r

-- the same of a statistic that there isn't, of the answers by proofs
pub answers_by_proofs_read : IsWitness (◌≡◌ {A = Status} BadName NoMemory → ⊥)
    (λ (r : Refusal). Answers (λ (answers : List ℕ). answers) (no_answers r) (table_answers None None scope (zones_asked scope (2 ∷ []) (told 0 9 (1 ∷ []) (1 ∷ []) ∷ []))))
    (at_column BadName 0)
answers_by_proofs_read = record { met = bad_name; refuted = λ h. bad_stat (ap (λ (read : Result (List ℕ) Refusal). (refusal_of read).status) (h bad_name)) }
