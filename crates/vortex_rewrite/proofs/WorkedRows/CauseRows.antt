-- Worked rows: what a rule of a user may cause at some nodes, and what it may not.
use Rattle.std.proofs.Common.{◌≡◌, ℕ, Bool, true, false, List, [], ◌∷◌, Option, Some, None, IsTrue, refl, sym, ap, subst, ◌∙◌, arith}
use Rattle.std.specs.Prelude.{◌==◌, Contains, IsSomeAnd}
use Rattle.vortex_base.specs.declared.dtype.DType.TheVariants as dtype
use Rattle.vortex_base.specs.declared.types.Nullability.TheVariants.{Nullable}
use Rattle.vortex_base.specs.declared.types.PType.TheVariants.{I32}
use Rattle.vortex_expr.specs.declared.scalar_fn.ScalarFnId.{ScalarFnId}
use Rattle.vortex_expr.specs.declared.scalar_fn.ScalarFnId.TheVariants as functions
use Rattle.vortex_expr.specs.Trees.Tree.{Tree, Place, column, is_null, not, scalar_fn_of}
use Rattle.vortex_rewrite.proofs.Logic.{only_one}
use Rattle.vortex_rewrite.specs.Rewriting.Falsifiers.{count_literal, is_function}
use Rattle.vortex_rewrite.specs.Rewriting.Lawful.{IsLawful, OwnRule}
use Rattle.vortex_rewrite.specs.Rewriting.Predicates.{is_predicate}
use Rattle.vortex_rewrite.specs.Rewriting.Proof.{Assignment, proves}
use Rattle.vortex_rewrite.specs.Rewriting.RuleRefusals.{rule_causes}
use Rattle.vortex_rewrite.specs.Rewriting.Visited.{visited}
use mathlib.Core.Bool.{true≢false}

abbrev null_test : Tree Place
null_test = is_null (column (record { index = 0; dtype = dtype.Primitive I32 Nullable }))

abbrev opposite : Tree Place
opposite = not null_test

-- ---- a rule for NOT that falsifies by a number and has no satisfier; it names the fault 3

abbrev seven : Tree Place → Option (Tree Place)
seven p = Some (count_literal 7)

abbrev nothing : Tree Place → Option (Tree Place)
nothing p = None

never_seven : (e : Tree Place) (A : Assignment) (n : ℕ) → count_literal 7 ≡ e → proves e A n ≡ false
never_seven e A n is = subst (λ (x : Tree Place). proves x A n ≡ false) is cc

seven_is_lawful : IsLawful seven nothing
seven_is_lawful = record {
  falsifies = λ p e h k A chunk over honest t. absurd (let is : count_literal 7 ≡ e = cc in true≢false (sym t ∙ never_seven e A _ is));
  satisfies = λ p e h. absurd cc;
}

abbrev rule_for : ScalarFnId → OwnRule
rule_for id = record { id = id; falsifier = seven; satisfier = nothing; can_fault = λ k. k == 3; is_lawful = seven_is_lawful }

abbrev rules : List OwnRule
rules = rule_for functions.Not ∷ []

there : {X : Type 0} (x : X) → Contains (x ∷ []) x
there x = (0, omega arith, refl)

-- ---- it is asked at NOT

fault_named : (rule_causes (λ rule. rule.falsifier) rules (visited opposite)).rule 3
fault_named = (opposite, rule_for functions.Not, there opposite, there (rule_for functions.Not), refl, refl)

number_named : (rule_causes (λ rule. rule.falsifier) rules (visited opposite)).not_bool
number_named = (opposite, rule_for functions.Not, there opposite, there (rule_for functions.Not), refl, refl)

-- it names no other fault there
no_other_fault : (rule_causes (λ rule. rule.falsifier) rules (visited opposite)).rule 4 → ⊥
no_other_fault h = true≢false (sym (ap (λ (r : OwnRule). r.can_fault 4) (only_one (rule_for functions.Not) h.1 h.3) ∙ h.5))

-- and has no satisfier that is a number
no_satisfier : (rule_causes (λ rule. rule.satisfier) rules (visited opposite)).not_bool → ⊥
no_satisfier h = subst (λ (r : OwnRule). IsSomeAnd (r.satisfier h.0) (λ e. is_predicate e ≡ false)) (sym (only_one (rule_for functions.Not) h.1 h.3)) h.5

-- ---- where no rule is asked nothing is caused

asked_at : (p q : Tree Place) (a b : OwnRule) → p ≡ q → a ≡ b → IsTrue (is_function (scalar_fn_of q) b.id) → IsTrue (is_function (scalar_fn_of p) a.id)
asked_at p q a b same also h = ap (λ (x : Tree Place). is_function (scalar_fn_of x) a.id) same ∙ ap (λ (r : OwnRule). is_function (scalar_fn_of q) r.id) also ∙ h

-- the rule for NOT isn't asked at IS NULL, though another node might be one of its own
at_no_node_of_its_own : (rule_causes (λ rule. rule.falsifier) rules (visited null_test)).rule 3 → ⊥
at_no_node_of_its_own h = true≢false (sym (asked_at null_test h.0 (rule_for functions.Not) h.1 (only_one null_test h.0 h.2) (only_one (rule_for functions.Not) h.1 h.3) h.4))

no_number_there : (rule_causes (λ rule. rule.falsifier) rules (visited null_test)).not_bool → ⊥
no_number_there h = true≢false (sym (asked_at null_test h.0 (rule_for functions.Not) h.1 (only_one null_test h.0 h.2) (only_one (rule_for functions.Not) h.1 h.3) h.4))

-- nor a rule for another function at NOT
by_no_rule_for_it : (rule_causes (λ rule. rule.falsifier) (rule_for functions.IsNotNull ∷ []) (visited opposite)).rule 3 → ⊥
by_no_rule_for_it h =
    true≢false (sym (asked_at opposite h.0 (rule_for functions.IsNotNull) h.1 (only_one opposite h.0 h.2) (only_one (rule_for functions.IsNotNull) h.1 h.3) h.4))

-- a rule that isn't among them is not asked
by_no_rule : (rule_causes (λ rule. rule.falsifier) [] (visited opposite)).rule 3 → ⊥
by_no_rule h = absurd (omega (arith, h.3.1))

at_no_node : (rule_causes (λ rule. rule.falsifier) rules []).rule 3 → ⊥
at_no_node h = absurd (omega (arith, h.2.1))
