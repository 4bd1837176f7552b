-- What a scan is refused for: by built-in rules, and binders that name no fault, for memory alone.
use Rattle.std.proofs.Common.{◌≡◌, ℕ, Bool, true, false, List, [], Option, IfErr, Ok, Err, Result, arith, get_or, inl, inr, refl, sym, ap, subst, ◌∙◌}
use Rattle.std.specs.Prelude.{◌⊎◌, Contains}
use Rattle.vortex_base.specs.Data.Scalars.{Constant}
use Rattle.vortex_expr.specs.Trees.Tree.{Tree, Place}
use Rattle.vortex_base.specs.declared.dtype.DType.{DType}
use Rattle.vortex_rewrite.proofs.Rewriting.CauseLemmas.{either-left, either-refused, either-right, some-const}
use Rattle.vortex_prune.proofs.Binding.BoundValues.{met-const}
use Rattle.vortex_rewrite.proofs.Rewriting.ShutProofs.{built_in_is_shut, built_in_satisfier_is_shut}
use Rattle.vortex_prune.proofs.Scanning.ScanLemmas.{any_at, kept_quiet}
use Rattle.vortex_rewrite.specs.Answers.{IsMemory}
use Rattle.vortex_prune.specs.Binding.Binders.{BinderAnswer}
use Rattle.vortex_prune.specs.Part.{PartData}
use Rattle.vortex_rewrite.specs.Rewriting.Falsifiers.{falsifier, satisfier}
use Rattle.vortex_rewrite.specs.Rewriting.Lawful.{OwnRule}
use Rattle.vortex_rewrite.specs.Rewriting.RuleRefusals.{SomeAsked, rule_causes}
use Rattle.vortex_rewrite.specs.Rewriting.Visited.{visited}
use Rattle.vortex_rewrite.specs.Causes.{Causes, IsRefusal, either_causes}
use Rattle.vortex_rewrite.specs.Rewriting.Proof.{Assignment, is_open}
use Rattle.vortex_prune.specs.Scanning.ScanRefusals.{asking_causes, binder_causes, causes_by, faithful_causes, kept_binders, scan_causes}
use Rattle.vortex_prune.specs.Scanning.Selection.{any_binder}
use Rattle.vortex_stats.specs.declared.error.BinderFault.TheVariants as binder_fault
use Rattle.vortex_stats.specs.declared.error.RuleFault.TheVariants as rule_fault
use Rattle.vortex_stats.specs.declared.error.StatsError.{StatsError}
use Rattle.vortex_stats.specs.declared.error.StatsError.TheVariants as fault
use mathlib.Core.Bool.{true≢false}

no_element : {X : Type 0} (x : X) → Contains [] x → ⊥
no_element x h = absurd (omega (arith, h.1))

-- with no rule of a user none is asked
pub none_asked : (P : Tree Place → OwnRule → Type 0) (nodes : List (Tree Place)) → SomeAsked P [] nodes → ⊥
none_asked P nodes h = no_element h.1 h.3

neither : {A B : Type 0} → (A → ⊥) → (B → ⊥) → A ⊎ B → ⊥
neither not_a not_b (inl a) = not_a a
neither not_a not_b (inr b) = not_b b

-- ---- what the rules cause, and what comes of asking for the proofs, causes the refusal

module _ (falsifying satisfying : Option (Tree Place) → Causes) (rules : List OwnRule) (p : Tree Place) where
  pub falsifying_refused : (f : StatsError) → IsRefusal (rule_causes (λ rule. rule.falsifier) rules (visited p)) f → IsRefusal (causes_by falsifying satisfying rules p) f
  falsifying_refused f h = either-left _ _ f (either-left _ _ f h)

  pub satisfying_refused : (f : StatsError) → IsRefusal (rule_causes (λ rule. rule.satisfier) rules (visited p)) f → IsRefusal (causes_by falsifying satisfying rules p) f
  satisfying_refused f h = either-left _ _ f (either-right _ _ f h)

  pub asking_refused : (a b : Option (Tree Place)) (f : StatsError) → a ≡ falsifier rules p → b ≡ satisfier rules p → IsRefusal (either_causes (falsifying a) (satisfying b)) f → IsRefusal (causes_by falsifying satisfying rules p) f
  asking_refused a b f same also h =
      either-right _ _ f (subst (λ (o : Option (Tree Place)). IsRefusal (either_causes (falsifying (falsifier rules p)) (satisfying o)) f) also
      (subst (λ (o : Option (Tree Place)). IsRefusal (either_causes (falsifying o) (satisfying b)) f) same h))

-- ---- by built-in rules

module _ (falsifying satisfying : Option (Tree Place) → Causes) (p : Tree Place) where
  -- what is left of the causes are those of asking
  not_by_rules : {A B X Y : Type 0} → (A → ⊥) → (B → ⊥) → (A ⊎ B) ⊎ (X ⊎ Y) → X ⊎ Y
  not_by_rules not_a not_b (inl h) = absurd (neither not_a not_b h)
  not_by_rules not_a not_b (inr h) = h

  pub by_asking : (f : StatsError) → IsRefusal (causes_by falsifying satisfying [] p) f → IsRefusal (either_causes (falsifying (falsifier [] p)) (satisfying (satisfier [] p))) f
  by_asking (fault.Memory e) h = tt
  by_asking fault.NotPredicate h = absurd h
  by_asking fault.Mismatch h = absurd h
  by_asking fault.Unsupported h = absurd h
  by_asking (fault.Conflict s) h = absurd h
  by_asking (fault.Binder (binder_fault.Own k)) h = not_by_rules (λ x. x) (λ x. x) h
  by_asking (fault.Binder binder_fault.WrongType) h = not_by_rules (λ x. x) (λ x. x) h
  by_asking (fault.Rule (rule_fault.Own k)) h = not_by_rules (none_asked _ (visited p)) (none_asked _ (visited p)) h
  by_asking (fault.Rule rule_fault.NotBool) h = not_by_rules (none_asked _ (visited p)) (none_asked _ (visited p)) h
  by_asking fault.OpenProof h = not_by_rules (λ x. x) (λ x. x) h
  by_asking fault.TooLarge h = absurd h

  -- so memory alone is refused, where asking for a proof that is shut is refused for nothing else
  pub memory_alone_by : ((proof : Option (Tree Place)) (f : StatsError) → is_open proof ≡ false → IsRefusal (falsifying proof) f → IsMemory f)
      → ((proof : Option (Tree Place)) (f : StatsError) → is_open proof ≡ false → IsRefusal (satisfying proof) f → IsMemory f) → (f : StatsError) → IsRefusal (causes_by falsifying satisfying [] p) f → IsMemory f
  memory_alone_by alone also f h =
      elim (either-refused _ _ f (by_asking f h)) [
        | inl x ↦ alone (falsifier [] p) f (built_in_is_shut p) x
        | inr x ↦ also (satisfier [] p) f (built_in_satisfier_is_shut p) x
      ]

module _ {S : Type 0} (answer : S → BinderAnswer) (IsMissing : S → DType → Tree Place → Type 0) (can_fault : S → ℕ → Bool) where
  -- binders that are faithful and name no fault
  memory_alone : (binders : List S) → ((k : ℕ) → any_binder can_fault binders k ≡ false) → (proof : Option (Tree Place)) (f : StatsError) → is_open proof ≡ false
      → IsRefusal (asking_causes answer IsMissing can_fault proof binders) f → IsMemory f
  memory_alone binders quiet proof (fault.Memory e) shut h = refl
  memory_alone binders quiet proof fault.NotPredicate shut h = absurd h
  memory_alone binders quiet proof fault.Mismatch shut h = absurd h
  memory_alone binders quiet proof fault.Unsupported shut h = absurd h
  memory_alone binders quiet proof (fault.Conflict s) shut h = absurd h
  memory_alone binders quiet proof (fault.Binder (binder_fault.Own k)) shut h =
      let named : can_fault h.1 k ≡ true = some-const proof _ _ (λ e m. met-const _ e m) h.4 in
      let read : can_fault (get_or binders h.0 h.1) k ≡ true = ap (λ b. can_fault b k) h.3 ∙ named in
      absurd (true≢false (sym (any_at can_fault binders h.0 h.1 k h.2 read) ∙ quiet k))
  memory_alone binders quiet proof (fault.Binder binder_fault.WrongType) shut h = absurd h
  memory_alone binders quiet proof (fault.Rule (rule_fault.Own k)) shut h = absurd h
  memory_alone binders quiet proof (fault.Rule rule_fault.NotBool) shut h = absurd h
  memory_alone binders quiet proof fault.OpenProof shut h = absurd (true≢false (sym h.0 ∙ shut))
  memory_alone binders quiet proof fault.TooLarge shut h = absurd h

  module _ (value : S → List Constant → ℕ → Assignment) (parts : List PartData) (binders : List S) where
    -- what asking faithful binders for the satisfier may cause, with this falsifier
    abbrev kept_causes : (falsifier satisfier : Option (Tree Place)) → Causes
    kept_causes falsifier proof = asking_causes answer IsMissing can_fault proof (kept_binders value falsifier parts binders)

    module _ (p : Tree Place) (rules : List OwnRule) (a b : Option (Tree Place)) where
      -- a refusal that comes of asking for the two proofs
      pub by_binders : {X : Type 0} (r : Result X StatsError) → a ≡ falsifier rules p → b ≡ satisfier rules p
          → IfErr r (IsRefusal (either_causes (binder_causes answer IsMissing can_fault a binders) (binder_causes answer IsMissing can_fault b binders)))
          → IfErr r (IsRefusal (scan_causes answer IsMissing can_fault rules p binders))
      by_binders (Ok x) same also h = tt
      by_binders (Err f) same also h = asking_refused (λ proof. binder_causes answer IsMissing can_fault proof binders) (λ proof. binder_causes answer IsMissing can_fault proof binders) rules p a b f same also h

      pub by_faithful : {X F : Type 0} (r : Result X StatsError) → a ≡ falsifier rules p → b ≡ satisfier rules p
          → IfErr r (λ f. F → IsRefusal (either_causes (asking_causes answer IsMissing can_fault a binders) (kept_causes a b)) f)
          → F → IfErr r (IsRefusal (faithful_causes answer IsMissing can_fault value rules p parts binders))
      by_faithful (Ok x) same also h faithful = tt
      by_faithful (Err f) same also h faithful =
          asking_refused (λ proof. asking_causes answer IsMissing can_fault proof binders) (kept_causes (falsifier rules p)) rules p a b f same also
          (subst (λ (o : Option (Tree Place)). IsRefusal (either_causes (asking_causes answer IsMissing can_fault a binders) (kept_causes o b)) f) same (h faithful))

    -- such a scan is refused for memory alone
    pub refused_for_memory : {X : Type 0} (p : Tree Place) (rules : List OwnRule) (r : Result X StatsError) → rules ≡ [] → ((k : ℕ) → any_binder can_fault binders k ≡ false)
        → IfErr r (IsRefusal (faithful_causes answer IsMissing can_fault value rules p parts binders)) → IfErr r IsMemory
    refused_for_memory p rules (Ok x) none quiet h = tt
    refused_for_memory p rules (Err f) none quiet h =
        memory_alone_by (λ proof. asking_causes answer IsMissing can_fault proof binders) (kept_causes (falsifier [] p)) p (memory_alone binders quiet)
        (memory_alone (kept_binders value (falsifier [] p) parts binders) (λ k. kept_quiet value (falsifier [] p) can_fault k parts binders (quiet k))) f
        (subst (λ rs. IsRefusal (faithful_causes answer IsMissing can_fault value rs p parts binders) f) none h)
