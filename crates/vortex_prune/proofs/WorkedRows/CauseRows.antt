-- Worked rows: what a scan by binders and pruning may be refused for, each cause at each of its places.
use Rattle.std.specs.Prelude.{◌≡◌, ◌==◌, ◌⊎◌, ℕ, zero, suc, true, false, Any, Contains, IsSomeAnd, IsTrue, List, [], ◌∷◌, Option, Some, None, Result, Ok, refl}
use Rattle.std.proofs.Common.{ap, ap₂, arith, inl, inr, subst, sym, ◌∙◌}
use Rattle.std.proofs.lemmas.Option.{same_Some}
use Rattle.vortex_base.specs.declared.aggregate.AggregateFnRef.TheVariants.{AllNull}
use Rattle.vortex_base.specs.declared.dtype.DType.{DType}
use Rattle.vortex_base.specs.declared.dtype.DType.TheVariants as dtype
use Rattle.vortex_base.specs.declared.error.BaseError.{BaseError}
use Rattle.vortex_base.specs.declared.types.Nullability.TheVariants.{Nullable, NonNullable}
use Rattle.vortex_base.specs.Data.Types.{eq_ignore_nullability}
use Rattle.vortex_expr.specs.Meanings.Typing.{type_of}
use Rattle.vortex_expr.specs.Trees.Tree.{Tree, Place, between, binary, column, is_closed, is_not_null, is_null, like, literal, not, row_count, scalar_fn_of, stat}
use Rattle.vortex_expr.specs.declared.scalar_fn.Operator.TheVariants.{And}
use Rattle.vortex_expr.specs.declared.scalar_fn.ScalarFnId.TheVariants as functions
use Rattle.vortex_prune.proofs.WorkedRows.ShutRows.{Fixed, IsMissing, answers, neither, three}
use Rattle.vortex_prune.proofs.WorkedRows.Witnesses.Parts.{a, above_ten, high, low}
use Rattle.vortex_zone_map.proofs.WorkedRows.Witnesses.{i64_type, scope}
use Rattle.vortex_prune.specs.Binding.BoundTo.{IsBoundTo, IsWrong, SomeMet}
use Rattle.vortex_prune.specs.Part.{zone_of}
use Rattle.vortex_zone_map.specs.Zone.{ZoneData}
use Rattle.vortex_prune.specs.Scanning.ScanRefusals.{scan_causes}
use Rattle.vortex_prune.specs.Scanning.ZoneScans.{pruning_causes}
use Rattle.vortex_rewrite.specs.Causes.{Causes}
use Rattle.vortex_rewrite.specs.Rewriting.Falsifiers.{bool_literal, is_function, node, reduce_balanced}
use Rattle.vortex_rewrite.specs.Rewriting.Lawful.{IsLawful, OwnRule}
use Rattle.vortex_rewrite.specs.Rewriting.Predicates.{is_predicate}
use Rattle.vortex_rewrite.specs.Rewriting.Proof.{Assignment, proves}
use Rattle.vortex_rewrite.specs.Rewriting.RuleRefusals.{SomeAsked}
use mathlib.Core.Bool.{true≢false}

-- ---- proofs that are never true, so that each rule may have them

abbrev NeverTrue : Option (Tree Place) → Type 0
NeverTrue proof = (e : Tree Place) (A : Assignment) (n : ℕ) → proof ≡ Some e → proves e A n ≡ false

no_proof : NeverTrue None
no_proof e A n is = absurd cc

never : (t : Tree Place) → ((A : Assignment) (n : ℕ) → proves t A n ≡ false) → NeverTrue (Some t)
never t is_false e A n is = ap (λ (x : Tree Place). proves x A n) (sym (same_Some t e is)) ∙ is_false A n

lawful : (f s : Option (Tree Place)) → NeverTrue f → NeverTrue s → IsLawful (λ p. f) (λ p. s)
lawful f s falsifying satisfying = record {
  falsifies = λ p e is k A chunk over honest t. absurd (true≢false (sym t ∙ falsifying e A _ is));
  satisfies = λ p e is k A chunk over honest t. absurd (true≢false (sym t ∙ satisfying e A _ is));
}

-- a rule for NOT that has these proofs and names the fault 7
abbrev rule : (f s : Option (Tree Place)) → NeverTrue f → NeverTrue s → OwnRule
rule f s falsifying satisfying = record { id = functions.Not; falsifier = λ p. f; satisfier = λ p. s; can_fault = λ k. k == 7; is_lawful = lawful f s falsifying satisfying }

-- a column of truths, of which a proof is left open
abbrev bare : Tree Place
bare = column (record { index = 0; dtype = dtype.Bool Nullable })

-- a placeholder beside false
abbrev asked : Tree Place
asked = binary And (bool_literal false) (stat AllNull a)

bare_never : NeverTrue (Some bare)
bare_never = never bare (λ A n. refl)

asked_never : NeverTrue (Some asked)
asked_never = never asked (λ A n. refl)

-- a number is no proof
three_never : NeverTrue (Some three)
three_never = never three (λ A n. refl)

abbrev quiet : OwnRule
quiet = rule None None no_proof no_proof

abbrev asking_falsifier : OwnRule
asking_falsifier = rule (Some asked) None asked_never no_proof

abbrev asking_satisfier : OwnRule
asking_satisfier = rule None (Some asked) no_proof asked_never

abbrev open_falsifier : OwnRule
open_falsifier = rule (Some bare) None bare_never no_proof

abbrev open_satisfier : OwnRule
open_satisfier = rule None (Some bare) no_proof bare_never

abbrev number_falsifier : OwnRule
number_falsifier = rule (Some three) None three_never no_proof

abbrev number_satisfier : OwnRule
number_satisfier = rule None (Some three) no_proof three_never

abbrev two_columns : OwnRule
two_columns = rule (Some bare) (Some bare) bare_never bare_never

-- NOT, at which the rule is asked
abbrev negated : Tree Place
negated = not (bool_literal true)

-- ---- binders of a placeholder of type Bool

abbrev bool_type : DType
bool_type = dtype.Bool Nullable

abbrev truth_type : DType
truth_type = dtype.Bool NonNullable

-- by a truth, by a number and by a column; by a truth where none is asked, and the fault 3
abbrev by_truth : Fixed
by_truth = record { answer = Some (bool_literal true); missing = bare; fault = 0 }

abbrev by_number : Fixed
by_number = record { answer = Some three; missing = bool_literal true; fault = 0 }

abbrev by_column : Fixed
by_column = record { answer = Some bare; missing = bool_literal true; fault = 0 }

abbrev by_missing_number : Fixed
by_missing_number = record { answer = None; missing = three; fault = 0 }

abbrev by_fault : Fixed
by_fault = record { answer = None; missing = bool_literal true; fault = 3 }

-- ---- rules: one alone is asked at one node

alone : {X : Type 0} (x y : X) → Contains (x ∷ []) y → x ≡ y
alone x y (zero, less, is) = is
alone x y (suc k, less, is) = absurd (omega (arith, less))

asked_alone : (P : Tree Place → OwnRule → Type 0) (r : OwnRule) (p : Tree Place) → SomeAsked P (r ∷ []) (p ∷ []) → IsTrue (is_function (scalar_fn_of p) r.id) × P p r
asked_alone P r p (q, s, at, of, fits, holds) =
    let node_is : q ≡ p = sym (alone p q at) in
    let rule_is : s ≡ r = sym (alone r s of) in (
      subst (λ (x : OwnRule). IsTrue (is_function (scalar_fn_of p) x.id)) rule_is (subst (λ (x : Tree Place). IsTrue (is_function (scalar_fn_of x) s.id)) node_is fits),
      subst (λ (x : OwnRule). P p x) rule_is (subst (λ (x : Tree Place). P x s) node_is holds),
    )

without_rules : (P : Tree Place → OwnRule → Type 0) (nodes : List (Tree Place)) → SomeAsked P [] nodes → ⊥
without_rules P nodes (q, s, at, of, fits, holds) = absurd (omega (arith, of.1))

-- of one binder, and of none
any_alone : (P : Fixed → Type 0) (b : Fixed) → Any P (b ∷ []) → P b
any_alone P b (zero, c, less, is, h) = subst P (sym is) h
any_alone P b (suc k, c, less, is, h) = absurd (omega (arith, less))

any_of_none : (P : Fixed → Type 0) → Any P [] → ⊥
any_of_none P (k, c, less, is, h) = absurd (omega (arith, less))

abbrev of_type : DType → Result DType BaseError
of_type t = Ok t

same_Ok : (s t : DType) → of_type s ≡ of_type t → s ≡ t
same_Ok s t h = cc

-- none of four is so
pub none_of : {P Q R S : Type 0} → (P → ⊥) → (Q → ⊥) → (R → ⊥) → (S → ⊥) → (P ⊎ Q) ⊎ (R ⊎ S) → ⊥
none_of p q r s (inl h) = neither p q h
none_of p q r s (inr h) = neither r s h

-- nothing is so
pub nothing : ⊥ → ⊥
nothing h = h

-- no fault is met that isn't named
none_met : (e : Tree Place) → SomeMet (λ f x. IsTrue false) e → ⊥
none_met (column c) h = h
none_met (literal c) h = h
none_met (binary o l r) h = neither (none_met l) (none_met r) h
none_met (between o x l u) h = neither (none_met x) (neither (none_met l) (none_met u)) h
none_met (is_null x) h = none_met x h
none_met (is_not_null x) h = none_met x h
none_met (not x) h = none_met x h
none_met (like o x p) h = neither (none_met x) (none_met p) h
none_met (stat f x) h = true≢false (sym h)
none_met row_count h = h

pub none_named : (proof : Option (Tree Place)) → IsSomeAnd proof (SomeMet (λ f x. IsTrue false)) → ⊥
none_named None h = h
none_named (Some e) h = none_met e h

abbrev Faults : ℕ → Tree Place → OwnRule → Type 0
Faults k p r = IsTrue (r.can_fault k)

abbrev FalsifiesByNoTruth : Tree Place → OwnRule → Type 0
FalsifiesByNoTruth p r = IsSomeAnd (r.falsifier p) (λ e. is_predicate e ≡ false)

abbrev SatisfiesByNoTruth : Tree Place → OwnRule → Type 0
SatisfiesByNoTruth p r = IsSomeAnd (r.satisfier p) (λ e. is_predicate e ≡ false)

-- the fault 6 isn't named
no_other_number : SomeAsked (Faults 6) (quiet ∷ []) (negated ∷ []) → ⊥
no_other_number h = true≢false (sym (asked_alone (Faults 6) quiet negated h).1)

-- at a comparison no rule for NOT is asked
none_asked : (P : Tree Place → OwnRule → Type 0) (r : OwnRule) → is_function (scalar_fn_of above_ten) r.id ≡ false → SomeAsked P (r ∷ []) (above_ten ∷ []) → ⊥
none_asked P r is h = true≢false (sym (asked_alone P r above_ten h).0 ∙ is)

-- ---- scans: a fault of a rule by its number, where it is asked

abbrev scanning : OwnRule → Tree Place → List Fixed → Causes
scanning r p binders = scan_causes answers IsMissing (λ b k. k == b.fault) (r ∷ []) p binders

rule_faults : (scanning quiet negated []).rule 7
rule_faults = inl (inl (negated, quiet, (0, omega arith, refl), (0, omega arith, refl), refl, refl))

another_number : (scanning quiet negated []).rule 6 → ⊥
another_number h = none_of no_other_number no_other_number nothing nothing h

rule_not_asked : (scanning quiet above_ten []).rule 7 → ⊥
rule_not_asked h = none_of (none_asked (Faults 7) quiet refl) (none_asked (Faults 7) quiet refl) nothing nothing h

no_rule : (scan_causes answers IsMissing (λ b k. k == b.fault) [] negated []).rule 7 → ⊥
no_rule h = none_of (λ x. without_rules (Faults 7) (negated ∷ []) x) (λ x. without_rules (Faults 7) (negated ∷ []) x) nothing nothing h

-- ---- a proof of another type than Bool, on either side

falsifier_is_number : (scanning number_falsifier negated []).not_bool
falsifier_is_number = inl (inl (negated, number_falsifier, (0, omega arith, refl), (0, omega arith, refl), refl, refl))

satisfier_is_number : (scanning number_satisfier negated []).not_bool
satisfier_is_number = inl (inr (negated, number_satisfier, (0, omega arith, refl), (0, omega arith, refl), refl, refl))

both_are_truths : (scanning two_columns negated []).not_bool → ⊥
both_are_truths h =
    none_of (λ x. true≢false (asked_alone FalsifiesByNoTruth two_columns negated x).1) (λ x. true≢false (asked_alone SatisfiesByNoTruth two_columns negated x).1) nothing nothing h

number_not_asked : (scanning number_falsifier above_ten []).not_bool → ⊥
number_not_asked h = none_of (none_asked FalsifiesByNoTruth number_falsifier refl) (none_asked SatisfiesByNoTruth number_falsifier refl) nothing nothing h

-- ---- a fault of a binder by its number, where it is asked for either proof

falsifier_meets_fault : (scanning asking_falsifier negated (by_truth ∷ by_fault ∷ [])).binder 3
unfolding node reduce_balanced
falsifier_meets_fault = inr (inl (1, by_fault, omega arith, refl, inr refl))

satisfier_meets_fault : (scanning asking_satisfier negated (by_fault ∷ by_truth ∷ [])).binder 3
unfolding node reduce_balanced
satisfier_meets_fault = inr (inr (0, by_fault, omega arith, refl, inr refl))

another_fault : (scanning asking_falsifier negated (by_fault ∷ [])).binder 4 → ⊥
unfolding node reduce_balanced
another_fault h = none_of nothing nothing (λ x. neither nothing (λ y. true≢false (sym y)) (any_alone (λ b. ⊥ ⊎ ((4 == b.fault) ≡ true)) by_fault x)) (λ x. any_alone (λ b. ⊥) by_fault x) h

binder_not_asked : (scanning quiet negated (by_fault ∷ [])).binder 3 → ⊥
unfolding node reduce_balanced
binder_not_asked h = none_of nothing nothing (λ x. any_alone (λ b. ⊥) by_fault x) (λ x. any_alone (λ b. ⊥) by_fault x) h

no_binder : (scanning asking_falsifier negated []).binder 3 → ⊥
unfolding node reduce_balanced
no_binder h = none_of nothing nothing (λ x. any_of_none (λ b. ⊥ ⊎ ((3 == b.fault) ≡ true)) x) (λ x. any_of_none (λ b. ⊥) x) h

-- ---- an answer of another type, where a binder is asked for either proof

abbrev Wrong : Fixed → Type 0
Wrong b = IsWrong (answers b) (IsMissing b) AllNull a

number_is_wrong : Wrong by_number
number_is_wrong = (bool_type, i64_type, three, refl, refl, refl, refl)

missing_number_is_wrong : Wrong by_missing_number
missing_number_is_wrong = (bool_type, i64_type, three, refl, refl, refl, refl)

truth_is_right : Wrong by_truth → ⊥
truth_is_right (t, s, r, typed, is, of, differ) =
    let type_is : bool_type ≡ t = cc in
    let own : truth_type ≡ s = same_Ok truth_type s (ap type_of (sym is) ∙ of) in
    true≢false (subst (λ x. eq_ignore_nullability x bool_type ≡ false) (sym own) (subst (λ x. eq_ignore_nullability s x ≡ false) (sym type_is) differ))

falsifier_meets_number : (scanning asking_falsifier negated (by_truth ∷ by_number ∷ [])).wrong_type
unfolding node reduce_balanced
falsifier_meets_number = inr (inl (1, by_number, omega arith, refl, inr number_is_wrong))

satisfier_meets_number : (scanning asking_satisfier negated (by_missing_number ∷ [])).wrong_type
unfolding node reduce_balanced
satisfier_meets_number = inr (inr (0, by_missing_number, omega arith, refl, inr missing_number_is_wrong))

truth_has_its_type : (scanning asking_falsifier negated (by_truth ∷ [])).wrong_type → ⊥
unfolding node reduce_balanced
truth_has_its_type h = none_of nothing nothing (λ x. neither nothing truth_is_right (any_alone (λ b. ⊥ ⊎ Wrong b) by_truth x)) (λ x. any_alone (λ b. ⊥) by_truth x) h

number_is_not_asked : (scanning quiet negated (by_number ∷ [])).wrong_type → ⊥
unfolding node reduce_balanced
number_is_not_asked h = none_of nothing nothing (λ x. any_alone (λ b. ⊥) by_number x) (λ x. any_alone (λ b. ⊥) by_number x) h

-- ---- a proof that is left open, on either side

abbrev LeavesOpen : Fixed → Type 0
LeavesOpen b = IsBoundTo (answers b) (IsMissing b) asked false

column_leaves_open : LeavesOpen by_column
column_leaves_open = (binary And (bool_literal false) bare, (bool_literal false, bare, refl, refl, ((λ t h. refl), refl)), refl)

truth_closes : LeavesOpen by_truth → ⊥
truth_closes (r, (l, x, is, left, right), is_open) =
    let made : r ≡ binary And (bool_literal false) (bool_literal true) = is ∙ ap₂ (binary And) left (right.0 bool_type refl) in
    true≢false (ap is_closed (sym made) ∙ is_open)

falsifier_left_open : (scanning asking_falsifier negated (by_truth ∷ by_column ∷ [])).open_proof
unfolding node reduce_balanced
falsifier_left_open = inr (inl (1, by_column, omega arith, refl, column_leaves_open))

satisfier_left_open : (scanning asking_satisfier negated (by_column ∷ [])).open_proof
unfolding node reduce_balanced
satisfier_left_open = inr (inr (0, by_column, omega arith, refl, column_leaves_open))

-- also by a column of its own
bare_left_open : (scanning open_falsifier negated (by_truth ∷ [])).open_proof
unfolding node reduce_balanced
bare_left_open = inr (inl (0, by_truth, omega arith, refl, (bare, refl, refl)))

closed_by_truth : (scanning asking_falsifier negated (by_truth ∷ [])).open_proof → ⊥
unfolding node reduce_balanced
closed_by_truth h = none_of nothing nothing (λ x. truth_closes (any_alone LeavesOpen by_truth x)) (λ x. any_alone (λ b. ⊥) by_truth x) h

none_to_leave_open : (scanning quiet negated (by_column ∷ [])).open_proof → ⊥
unfolding node reduce_balanced
none_to_leave_open h = none_of nothing nothing (λ x. any_alone (λ b. ⊥) by_column x) (λ x. any_alone (λ b. ⊥) by_column x) h

-- ---- pruning: rules

abbrev pruning : OwnRule → Tree Place → List ZoneData → Causes
pruning r p zones = pruning_causes (r ∷ []) p scope zones

pruned_rule_faults : (pruning quiet negated []).rule 7
pruned_rule_faults = inl (inl (negated, quiet, (0, omega arith, refl), (0, omega arith, refl), refl, refl))

pruned_another_number : (pruning quiet negated []).rule 6 → ⊥
pruned_another_number h = none_of no_other_number no_other_number nothing nothing h

pruned_not_asked : (pruning quiet above_ten []).rule 7 → ⊥
pruned_not_asked h = none_of (none_asked (Faults 7) quiet refl) (none_asked (Faults 7) quiet refl) nothing nothing h

pruned_falsifier_is_number : (pruning number_falsifier negated []).not_bool
pruned_falsifier_is_number = inl (inl (negated, number_falsifier, (0, omega arith, refl), (0, omega arith, refl), refl, refl))

pruned_satisfier_is_number : (pruning number_satisfier negated []).not_bool
pruned_satisfier_is_number = inl (inr (negated, number_satisfier, (0, omega arith, refl), (0, omega arith, refl), refl, refl))

pruned_both_are_truths : (pruning two_columns negated []).not_bool → ⊥
pruned_both_are_truths h =
    none_of (λ x. true≢false (asked_alone FalsifiesByNoTruth two_columns negated x).1) (λ x. true≢false (asked_alone SatisfiesByNoTruth two_columns negated x).1) nothing nothing h

-- no binder of a caller takes part
no_binder_faults : (k : ℕ) → (pruning asking_falsifier negated (zone_of low ∷ [])).binder k → ⊥
no_binder_faults k h = none_of nothing nothing nothing nothing h

no_binder_is_wrong : (pruning asking_falsifier negated (zone_of low ∷ [])).wrong_type → ⊥
no_binder_is_wrong h = none_of nothing nothing nothing nothing h

-- ---- pruning: a falsifier with a column outside its placeholders and a zone, and such a satisfier and a zone that isn't skipped

open_with_a_zone : (pruning open_falsifier negated (zone_of low ∷ [])).open_proof
unfolding node reduce_balanced
open_with_a_zone = inr (inl refl)

not_without_zones : (pruning open_falsifier negated []).open_proof → ⊥
unfolding node reduce_balanced
not_without_zones h = none_of nothing nothing (λ x. true≢false (sym x)) (λ x. true≢false (sym x)) h

-- a placeholder has its column inside
not_by_a_placeholder : (pruning asking_falsifier negated (zone_of low ∷ [])).open_proof → ⊥
unfolding node reduce_balanced
not_by_a_placeholder h = none_of nothing nothing (λ x. true≢false (sym x)) (λ x. true≢false (sym x)) h

-- the falsifier of the AND is that of the comparison, and its satisfier has the column
abbrev above_and_not : Tree Place
above_and_not = binary And above_ten negated

open_if_kept : (pruning open_satisfier above_and_not (zone_of low ∷ zone_of high ∷ [])).open_proof
unfolding node reduce_balanced
open_if_kept = inr (inr refl)

open_if_the_first_is_kept : (pruning open_satisfier above_and_not (zone_of high ∷ zone_of low ∷ [])).open_proof
unfolding node reduce_balanced
open_if_the_first_is_kept = inr (inr refl)

not_if_all_are_skipped : (pruning open_satisfier above_and_not (zone_of low ∷ [])).open_proof → ⊥
unfolding node reduce_balanced
not_if_all_are_skipped h = none_of nothing nothing (λ x. true≢false (sym x)) (λ x. true≢false (sym x)) h

-- under a scope without the column nothing is known, and no zone skipped
open_under_another_scope : (pruning_causes (open_satisfier ∷ []) above_and_not [] (zone_of low ∷ [])).open_proof
unfolding node reduce_balanced
open_under_another_scope = inr (inr refl)

not_by_a_shut_satisfier : (pruning asking_satisfier negated (zone_of low ∷ [])).open_proof → ⊥
unfolding node reduce_balanced
not_by_a_shut_satisfier h = none_of nothing nothing (λ x. true≢false (sym x)) (λ x. true≢false (sym x)) h
