-- What may cause the refusal of a scan, and what an answered one has bound.
use Rattle.std.specs.Prelude.{◌≡◌, ◌⊎◌, ℕ, Bool, true, false, All, Any, Contains, List, [], ◌∷◌, Option, Some, IfSome, IsSomeAnd, IsTrue, if◌then◌else◌, slice_get}
use Rattle.vortex_base.specs.declared.dtype.DType.{DType}
use Rattle.vortex_base.specs.Data.Scalars.{Constant}
use Rattle.vortex_expr.specs.Trees.Tree.{Tree, Place}
use Rattle.vortex_prune.specs.Binding.Binders.{BinderAnswer}
use Rattle.vortex_prune.specs.Binding.BoundTo.{IsBoundTo, IsWrong, SomeMet}
use Rattle.vortex_rewrite.specs.Causes.{Causes, either_causes, no_causes}
use Rattle.vortex_rewrite.specs.Rewriting.Lawful.{OwnRule}
use Rattle.vortex_rewrite.specs.Rewriting.Falsifiers.{falsifier, satisfier}
use Rattle.vortex_rewrite.specs.Rewriting.Proof.{Assignment, is_open}
use Rattle.vortex_rewrite.specs.Rewriting.RuleRefusals.{rule_causes}
use Rattle.vortex_rewrite.specs.Rewriting.Visited.{visited}
use Rattle.vortex_prune.specs.Part.{PartData}
use Rattle.vortex_prune.specs.Scanning.Selection.{answers_for, is_proved}

module _ (answer : BinderAnswer) (IsMissing : DType → Tree Place → Type 0) where
  -- the binder binds the proof, if there is one, to a closed expression
  abbrev pub IsClosed : (proof : Option (Tree Place)) → Type 0
  IsClosed proof = IfSome proof (λ e. IsBoundTo answer IsMissing e true)

  -- what one binder may cause that is asked for a proof, if there is one: what it does in binding it, and that it leaves it open
  abbrev pub proof_causes : (can_fault : ℕ → Bool) → (proof : Option (Tree Place)) → Causes
  proof_causes can_fault proof = record no_causes {
    binder = λ k. IsSomeAnd proof (SomeMet (λ f x. IsTrue (can_fault k)));
    wrong_type = IsSomeAnd proof (SomeMet (IsWrong answer IsMissing));
    open_proof = IsSomeAnd proof (λ e. IsBoundTo answer IsMissing e false);
  }

module _ {S : Type 0} (answer : S → BinderAnswer) (IsMissing : S → DType → Tree Place → Type 0) where
  -- each binder does so
  abbrev pub AreClosed : (proof : Option (Tree Place)) → List S → Type 0
  AreClosed proof binders = All (λ b. IsClosed (answer b) (IsMissing b) proof) binders

  -- each binder does so, but for those of skipped parts
  abbrev pub KeptAreClosed : (skipped : List ℕ) → (proof : Option (Tree Place)) → List S → Type 0
  KeptAreClosed skipped proof binders = (i : ℕ) (b : S) → slice_get binders i ≡ Some b → Contains skipped i ⊎ IsClosed (answer b) (IsMissing b) proof

  -- what some of the binders may cause
  abbrev pub binder_causes : (can_fault : S → ℕ → Bool) → (proof : Option (Tree Place)) → List S → Causes
  binder_causes can_fault proof binders = record no_causes {
    binder = λ k. Any (λ b. (proof_causes (answer b) (IsMissing b) (can_fault b) proof).binder k) binders;
    wrong_type = Any (λ b. (proof_causes (answer b) (IsMissing b) (can_fault b) proof).wrong_type) binders;
    open_proof = Any (λ b. (proof_causes (answer b) (IsMissing b) (can_fault b) proof).open_proof) binders;
  }

-- the binders of the parts that aren't skipped: of those of which the falsifier isn't true, by the answers that the parts' binders name
abbrev pub kept_binders : {S : Type 0} → (value : S → List Constant → ℕ → Assignment) → (falsifier : Option (Tree Place)) → List PartData → List S → List S
kept_binders value falsifier (part ∷ parts) (binder ∷ binders) =
    if is_proved falsifier part (answers_for (value binder) part) then kept_binders value falsifier parts binders else binder ∷ kept_binders value falsifier parts binders
kept_binders value falsifier parts binders = []

-- those causes that are left where the binders are faithful: none answers by a wrong type, and a proof is left open only by a column of its own outside its placeholders
abbrev pub if_faithful : (proof : Option (Tree Place)) → Causes → Causes
if_faithful proof causes = record causes { wrong_type = ⊥; open_proof = (is_open proof ≡ true) × causes.open_proof }

-- these causes, if this is so
abbrev pub causes_if : Type 0 → Causes → Causes
causes_if P causes = record {
  rule = λ k. P × causes.rule k;
  not_bool = P × causes.not_bool;
  binder = λ k. P × causes.binder k;
  wrong_type = P × causes.wrong_type;
  open_proof = P × causes.open_proof;
}

-- what one faithful binder may cause that is asked what becomes of a part, under the answers that it names: it is asked for the falsifier, and for the satisfier if the falsifier isn't true of the part
module _ (answer : BinderAnswer) (IsMissing : DType → Tree Place → Type 0) (can_fault : ℕ → Bool) (falsifier satisfier : Option (Tree Place)) where
  abbrev pub verdict_causes : PartData → Assignment → Causes
  verdict_causes part A =
      either_causes (if_faithful falsifier (proof_causes answer IsMissing can_fault falsifier))
      (causes_if (is_proved falsifier part A ≡ false) (if_faithful satisfier (proof_causes answer IsMissing can_fault satisfier)))

-- what a scan may be refused for: what its rules cause at the nodes that are visited, and what comes of asking for the falsifier and for the satisfier
abbrev pub causes_by : (falsifying satisfying : Option (Tree Place) → Causes) → List OwnRule → Tree Place → Causes
causes_by falsifying satisfying rules p =
    either_causes (either_causes (rule_causes (λ rule. rule.falsifier) rules (visited p)) (rule_causes (λ rule. rule.satisfier) rules (visited p)))
    (either_causes (falsifying (falsifier rules p)) (satisfying (satisfier rules p)))

module _ {S : Type 0} (answer : S → BinderAnswer) (IsMissing : S → DType → Tree Place → Type 0) (can_fault : S → ℕ → Bool) where
  -- by a binder for each part
  abbrev pub scan_causes : List OwnRule → Tree Place → List S → Causes
  scan_causes rules p binders =
      causes_by (λ proof. binder_causes answer IsMissing can_fault proof binders) (λ proof. binder_causes answer IsMissing can_fault proof binders) rules p

  -- what faithful binders may cause that are asked for a proof
  abbrev pub asking_causes : (proof : Option (Tree Place)) → List S → Causes
  asking_causes proof binders = if_faithful proof (binder_causes answer IsMissing can_fault proof binders)

  -- by such binders that are faithful: each is asked for the falsifier, and those of parts that aren't skipped for the satisfier
  abbrev pub faithful_causes : (value : S → List Constant → ℕ → Assignment) → List OwnRule → Tree Place → List PartData → List S → Causes
  faithful_causes value rules p parts binders =
      causes_by (λ proof. asking_causes proof binders) (λ proof. asking_causes proof (kept_binders value (falsifier rules p) parts binders)) rules p
