-- Worked rows of what was bound to a closed expression: by all binders, by those of parts that aren't skipped, and for zones that aren't.
use Rattle.std.specs.Prelude.{◌≡◌, ◌⊎◌, ℕ, zero, suc, true, false, Contains, List, [], ◌∷◌, Option, Some, None, refl}
use Rattle.std.proofs.Common.{arith, inl, inr, subst, sym, ◌∙◌, ap}
use Rattle.std.proofs.lemmas.List.Elements.{All-from_recursion}
use Rattle.std.proofs.lemmas.Option.{same_Some}
use Rattle.vortex_base.specs.declared.aggregate.AggregateFnRef.{AggregateFnRef}
use Rattle.vortex_base.specs.declared.aggregate.AggregateFnRef.TheVariants.{Max}
use Rattle.vortex_base.specs.declared.dtype.DType.{DType}
use Rattle.vortex_expr.specs.Trees.Tree.{Tree, Place, is_closed, literal, stat}
use Rattle.vortex_prune.proofs.WorkedRows.Witnesses.Parts.{a}
use Rattle.vortex_zone_map.proofs.WorkedRows.Witnesses.{i64_type, num}
use Rattle.vortex_prune.specs.Binding.BoundTo.{IsBoundTo}
use Rattle.vortex_prune.specs.Scanning.PartScans.{UnlessSkipped}
use Rattle.vortex_prune.specs.Scanning.ScanRefusals.{AreClosed, IsClosed, KeptAreClosed}
use Rattle.vortex_prune.specs.Scanning.ZoneScans.{IsShutIfKept, IsShutIfVerdict}
use Rattle.vortex_prune.specs.declared.scan.verdict.Verdict.TheVariants.{Skipped, Whole, Tested}
use mathlib.Core.Bool.{true≢false}

-- ---- binders, by what they answer to each placeholder, if anything, what may stand for a missing answer, and the fault that they name

pub record Fixed : Type 0 where
  pub answer : Option (Tree Place)
  pub missing : Tree Place
  pub fault : ℕ

abbrev pub answers : Fixed → AggregateFnRef → Tree Place → DType → Option (Tree Place)
answers b f x t = b.answer

abbrev pub IsMissing : Fixed → DType → Tree Place → Type 0
IsMissing b t r = r ≡ b.missing

abbrev pub three : Tree Place
three = literal (record { dtype = i64_type; value = Some (num 3) })

-- by a literal, by a column, and by what stands for nothing
abbrev pub by_literal : Fixed
by_literal = record { answer = Some three; missing = a; fault = 0 }

abbrev pub by_column : Fixed
by_column = record { answer = Some a; missing = three; fault = 0 }

abbrev by_none : Fixed
by_none = record { answer = None; missing = three; fault = 0 }

abbrev by_missing_column : Fixed
by_missing_column = record { answer = None; missing = a; fault = 0 }

abbrev pub greatest : Option (Tree Place)
greatest = Some (stat Max a)

abbrev Closes : Option (Tree Place) → Fixed → Type 0
Closes proof b = IsClosed (answers b) (IsMissing b) proof

literal_closes : Closes greatest by_literal
literal_closes = (three, ((λ t h. refl), refl), refl)

none_closes : Closes greatest by_none
none_closes = (three, ((λ t h. refl), refl), refl)

-- what is bound to the column isn't closed
a_is_open : (r : Tree Place) → r ≡ a → is_closed r ≡ true → ⊥
a_is_open r is closed = true≢false (sym closed ∙ ap is_closed is)

column_leaves_open : Closes greatest by_column → ⊥
column_leaves_open h = a_is_open h.0 (h.1.0 i64_type refl) h.2

missing_column_leaves_open : Closes greatest by_missing_column → ⊥
missing_column_leaves_open h = a_is_open h.0 (h.1.0 i64_type refl) h.2

-- it's bound to an open expression in place of that
column_binds : IsBoundTo (answers by_column) (IsMissing by_column) (stat Max a) false
column_binds = (a, ((λ t h. refl), refl), refl)

literal_binds_none : IsBoundTo (answers by_literal) (IsMissing by_literal) (stat Max a) false → ⊥
literal_binds_none h = true≢false (ap is_closed (sym (h.1.0 i64_type refl)) ∙ h.2)

without_proof : (b : Fixed) → Closes None b
without_proof b = tt

-- a column outside all placeholders stays one
bare_stays_open : (b : Fixed) → Closes (Some a) b → ⊥
bare_stays_open b h = a_is_open h.0 h.1 h.2

-- ---- each binder

all_close : AreClosed answers IsMissing greatest (by_literal ∷ by_none ∷ [])
all_close = All-from_recursion (Closes greatest) (by_literal ∷ by_none ∷ []) (literal_closes, (none_closes, tt))

pub last_is_open : AreClosed answers IsMissing greatest (by_literal ∷ by_column ∷ []) → ⊥
last_is_open h = column_leaves_open (h 1 by_column (omega arith))

first_is_open : AreClosed answers IsMissing greatest (by_column ∷ by_literal ∷ []) → ⊥
first_is_open h = column_leaves_open (h 0 by_column (omega arith))

missing_is_open : AreClosed answers IsMissing greatest (by_none ∷ by_missing_column ∷ []) → ⊥
missing_is_open h = missing_column_leaves_open (h 1 by_column (omega arith))

no_proof_to_close : AreClosed answers IsMissing None (by_column ∷ [])
no_proof_to_close = All-from_recursion (Closes None) (by_column ∷ []) (tt, tt)

no_binder_to_close : AreClosed answers IsMissing greatest []
no_binder_to_close = All-from_recursion (Closes greatest) [] tt

-- ---- each binder of a part that isn't skipped

last_is_skipped : KeptAreClosed answers IsMissing (1 ∷ []) greatest (by_literal ∷ by_column ∷ [])
last_is_skipped zero b there = inr (subst (Closes greatest) (same_Some by_literal b there) literal_closes)
last_is_skipped (suc zero) b there = inl (0, omega arith, refl)
last_is_skipped (suc (suc i)) b there = absurd cc

first_is_skipped : KeptAreClosed answers IsMissing (0 ∷ []) greatest (by_column ∷ by_literal ∷ [])
first_is_skipped zero b there = inl (0, omega arith, refl)
first_is_skipped (suc zero) b there = inr (subst (Closes greatest) (same_Some by_literal b there) literal_closes)
first_is_skipped (suc (suc i)) b there = absurd cc

-- neither of two is so
pub neither : {P Q : Type 0} → (P → ⊥) → (Q → ⊥) → P ⊎ Q → ⊥
neither p q (inl x) = p x
neither p q (inr y) = q y

-- places that aren't among some
none_among : (i : ℕ) → Contains [] i → ⊥
none_among i h = absurd (omega (arith, h.1))

not_one : (x i : ℕ) → (x ≡ i → ⊥) → Contains (x ∷ []) i → ⊥
not_one x i other (zero, less, is) = other is
not_one x i other (suc k, less, is) = absurd (omega (arith, less))

not_two : (x y i : ℕ) → (x ≡ i → ⊥) → (y ≡ i → ⊥) → Contains (x ∷ y ∷ []) i → ⊥
not_two x y i first second (zero, less, is) = first is
not_two x y i first second (suc zero, less, is) = second is
not_two x y i first second (suc (suc k), less, is) = absurd (omega (arith, less))

pub last_is_kept : KeptAreClosed answers IsMissing (0 ∷ []) greatest (by_literal ∷ by_column ∷ []) → ⊥
last_is_kept h = neither (not_one 0 1 (omega arith)) column_leaves_open (h 1 by_column refl)

first_is_kept : KeptAreClosed answers IsMissing (1 ∷ []) greatest (by_column ∷ by_literal ∷ []) → ⊥
first_is_kept h = neither (not_one 1 0 (omega arith)) column_leaves_open (h 0 by_column refl)

missing_is_kept : KeptAreClosed answers IsMissing [] greatest (by_missing_column ∷ []) → ⊥
missing_is_kept h = neither (none_among 0) missing_column_leaves_open (h 0 by_missing_column refl)

all_kept_close : KeptAreClosed answers IsMissing [] greatest (by_none ∷ [])
all_kept_close zero b there = inr (subst (Closes greatest) (same_Some by_none b there) none_closes)
all_kept_close (suc i) b there = absurd cc

kept_without_proof : KeptAreClosed answers IsMissing [] None (by_column ∷ [])
kept_without_proof i b there = inr tt

-- ---- zones: a satisfier with a column outside its placeholders, and one without

abbrev pub open_satisfier : Option (Tree Place)
open_satisfier = Some a

abbrev pub three_zones : List ℕ
three_zones = 7 ∷ 8 ∷ 9 ∷ []

all_skipped : IsShutIfKept (0 ∷ 1 ∷ 2 ∷ []) open_satisfier three_zones
all_skipped zero less = inl (0, omega arith, refl)
all_skipped (suc zero) less = inl (1, omega arith, refl)
all_skipped (suc (suc zero)) less = inl (2, omega arith, refl)
all_skipped (suc (suc (suc i))) less = absurd (omega (arith, less))

pub last_zone_kept : IsShutIfKept (0 ∷ 1 ∷ []) open_satisfier three_zones → ⊥
last_zone_kept h = neither (not_two 0 1 2 (omega arith) (omega arith)) true≢false (h 2 (omega arith))

first_zone_kept : IsShutIfKept (1 ∷ 2 ∷ []) open_satisfier three_zones → ⊥
first_zone_kept h = neither (not_two 1 2 0 (omega arith) (omega arith)) true≢false (h 0 (omega arith))

only_zone_kept : IsShutIfKept {X = ℕ} [] open_satisfier (7 ∷ []) → ⊥
only_zone_kept h = neither (none_among 0) true≢false (h 0 (omega arith))

shut_satisfier : IsShutIfKept [] greatest three_zones
shut_satisfier i less = inr refl

no_satisfier : IsShutIfKept [] None three_zones
no_satisfier i less = inr refl

no_zone : IsShutIfKept {X = ℕ} [] open_satisfier []
no_zone i less = absurd (omega (arith, less))

-- ---- the same, where verdicts are listed

both_skipped : IsShutIfVerdict open_satisfier (Skipped ∷ Skipped ∷ [])
both_skipped zero v there = subst (λ u. UnlessSkipped u (true ≡ false)) (same_Some Skipped v there) tt
both_skipped (suc zero) v there = subst (λ u. UnlessSkipped u (true ≡ false)) (same_Some Skipped v there) tt
both_skipped (suc (suc i)) v there = absurd cc

pub last_is_whole : IsShutIfVerdict open_satisfier (Skipped ∷ Whole ∷ []) → ⊥
last_is_whole h = true≢false (h 1 Whole refl)

last_is_tested : IsShutIfVerdict open_satisfier (Skipped ∷ Tested ∷ []) → ⊥
last_is_tested h = true≢false (h 1 Tested refl)

first_is_whole : IsShutIfVerdict open_satisfier (Whole ∷ Skipped ∷ []) → ⊥
first_is_whole h = true≢false (h 0 Whole refl)

first_is_tested : IsShutIfVerdict open_satisfier (Tested ∷ Skipped ∷ []) → ⊥
first_is_tested h = true≢false (h 0 Tested refl)

shut_by_verdicts : IsShutIfVerdict greatest (Skipped ∷ Whole ∷ Tested ∷ [])
shut_by_verdicts i Skipped there = tt
shut_by_verdicts i Whole there = refl
shut_by_verdicts i Tested there = refl

no_satisfier_by_verdicts : IsShutIfVerdict None (Whole ∷ Tested ∷ [])
no_satisfier_by_verdicts i Skipped there = tt
no_satisfier_by_verdicts i Whole there = refl
no_satisfier_by_verdicts i Tested there = refl
