-- The promises of scans of parts, from what they found and what they were refused for.
use Rattle.std.proofs.Common.{◌≡◌, Bool, true, false, List, Ok, Err, Result, IfErr, IsTrue, ap, subst, sym, true≢false, ◌∙◌}
use Rattle.std.specs.Prelude.{alloc_error}
use Rattle.vortex_expr.specs.Trees.Tree.{Place, Tree}
use Rattle.vortex_prune.proofs.Scanning.ScanRefused.{falsifying_refused, refused_for_memory, satisfying_refused}
use Rattle.vortex_prune.proofs.ZoneMaps.ZoneRefusals.{zones_refused_for_memory}
use Rattle.vortex_prune.specs.Part.{PartData}
use Rattle.vortex_prune.specs.Scanning.Promises.{RefusesByBinders, RefusesByZones}
use Rattle.vortex_prune.specs.Scanning.ScanRefusals.{asking_causes, binder_causes, faithful_causes, kept_binders, scan_causes}
use Rattle.vortex_prune.specs.Scanning.Selection.{AreFaithful}
use Rattle.vortex_prune.specs.Scanning.ZoneScans.{is_proved_part, zone_causes}
use Rattle.vortex_prune.specs.declared.bind.stat_binder.StatBinder.{Ghosts}
use Rattle.vortex_prune.specs.declared.scan.outcome.Scan.{Scan}
use Rattle.vortex_rewrite.specs.Causes.{IsRefusal}
use Rattle.vortex_rewrite.specs.Rewriting.Falsifiers.{falsifier}
use Rattle.vortex_rewrite.specs.Rewriting.Lawful.{OwnRule}
use Rattle.vortex_rewrite.specs.Rewriting.Predicates.{is_predicate}
use Rattle.vortex_rewrite.specs.Rewriting.RuleRefusals.{rule_causes}
use Rattle.vortex_rewrite.specs.Rewriting.Visited.{visited}
use Rattle.vortex_stats.specs.declared.error.StatsError.{StatsError}
use Rattle.vortex_stats.specs.declared.error.StatsError.TheVariants as fault

-- no test answers both
pub no_longer : {X : Type 0} (b : Bool) → b ≡ true → b ≡ false → X
no_longer b shown untrue = absurd (true≢false (sym shown ∙ untrue))

-- answers that are the same refusals tell the same fault
pub err_same : {X : Type 0} {e f : StatsError} → ◌≡◌ {A = Result X StatsError} (Err e) (Err f) → e ≡ f
err_same h = cc

-- ---- by a binder for each part

module _ {S : Type 0} (B : Ghosts S) (rules : List OwnRule) (p : Tree Place) (parts : List PartData) (binders : List S) where
  pub refuses_by_binders : (r : Result Scan StatsError) → (is_predicate p ≡ false → r ≡ Err fault.NotPredicate) → (IsTrue (is_predicate p) → IfErr r (IsRefusal (scan_causes B.answer B.is_missing B.can_fault rules p binders)))
      → (IsTrue (is_predicate p) → AreFaithful B.is_faithful_over parts binders → IfErr r (IsRefusal (faithful_causes B.answer B.is_missing B.can_fault B.value rules p parts binders)))
      → RefusesByBinders B rules p parts binders r
  refuses_by_binders r other caused asked = record {
    memory = λ predicate none faithful quiet. refused_for_memory B.answer B.is_missing B.can_fault B.value parts binders p rules r none quiet (asked predicate faithful);
    not_predicate = other;
    refusal = caused;
    faithful = asked;
  }

  module _ (e : StatsError) (other : is_predicate p ≡ false → e ≡ fault.NotPredicate) where
    -- where there is no falsifier, for what a rule caused
    pub not_falsified : (IsTrue (is_predicate p) → IsRefusal (rule_causes (λ rule. rule.falsifier) rules (visited p)) e) → RefusesByBinders B rules p parts binders (Err e)
    not_falsified caused =
        refuses_by_binders (Err e) (λ untrue. ap Err (other untrue))
        (λ predicate. falsifying_refused (λ proof. binder_causes B.answer B.is_missing B.can_fault proof binders) (λ proof. binder_causes B.answer B.is_missing B.can_fault proof binders) rules p e (caused predicate))
        (λ predicate faithful.
        falsifying_refused (λ proof. asking_causes B.answer B.is_missing B.can_fault proof binders) (λ proof. asking_causes B.answer B.is_missing B.can_fault proof (kept_binders B.value (falsifier rules p) parts binders)) rules p e (caused predicate))

    -- where there is no satisfier
    pub not_satisfied : (IsTrue (is_predicate p) → IsRefusal (rule_causes (λ rule. rule.satisfier) rules (visited p)) e) → RefusesByBinders B rules p parts binders (Err e)
    not_satisfied caused =
        refuses_by_binders (Err e) (λ untrue. ap Err (other untrue))
        (λ predicate. satisfying_refused (λ proof. binder_causes B.answer B.is_missing B.can_fault proof binders) (λ proof. binder_causes B.answer B.is_missing B.can_fault proof binders) rules p e (caused predicate))
        (λ predicate faithful.
        satisfying_refused (λ proof. asking_causes B.answer B.is_missing B.can_fault proof binders) (λ proof. asking_causes B.answer B.is_missing B.can_fault proof (kept_binders B.value (falsifier rules p) parts binders)) rules p e (caused predicate))

-- ---- by a map

module _ (rules : List OwnRule) (p : Tree Place) (parts : List PartData) where
  pub refuses_by_zones : (r : Result Scan StatsError) → (is_predicate p ≡ false → r ≡ Err fault.NotPredicate) → (IsTrue (is_predicate p) → IfErr r (IsRefusal (zone_causes rules p parts))) → RefusesByZones rules p parts r
  refuses_by_zones r other caused = record {
    memory = λ predicate none. zones_refused_for_memory is_proved_part rules p parts r none (caused predicate);
    not_predicate = other;
    refusal = caused;
  }

  memory_by_zones : (r : Result Scan StatsError) → IfErr r (λ e. e ≡ fault.Memory alloc_error) → IfErr r (IsRefusal (zone_causes rules p parts))
  memory_by_zones (Ok scan) memory = tt
  memory_by_zones (Err e) memory = subst (IsRefusal (zone_causes rules p parts)) (sym memory) tt

  -- where memory was refused, or nothing was
  pub zones_by_verdicts : (r : Result Scan StatsError) → IsTrue (is_predicate p) → IfErr r (λ e. e ≡ fault.Memory alloc_error) → RefusesByZones rules p parts r
  zones_by_verdicts r predicate memory = refuses_by_zones r (λ untrue. no_longer (is_predicate p) predicate untrue) (λ also. memory_by_zones r memory)
