-- What the set of a zone's column tells, as a literal.
use Rattle.std.proofs.Common.{◌≡◌, ℕ, List, Option, Some, subst, sym, ap, ap₂, ◌∙◌}
use Rattle.std.specs.Prelude.{Bool, MatchResult, Result, Ok, Err, alloc_error, option_map, slice_get}
use Rattle.vortex_base.specs.declared.aggregate.AggregateFnRef.{AggregateFnRef}
use Rattle.vortex_base.specs.declared.dtype.DType.{DType}
use Rattle.vortex_base.specs.declared.error.BaseError.{BaseError}
use Rattle.vortex_base.specs.declared.scalar_value.ScalarValue.{ScalarValue}
use Rattle.vortex_base.specs.Data.Scalars.{Constant}
use Rattle.vortex_base.specs.Data.Scopes.{Named}
use Rattle.vortex_expr.specs.Trees.Tree.{Tree, Place, literal}
use Rattle.vortex_expr.specs.Meanings.Typing.{stat_type}
use Rattle.vortex_stats.specs.declared.error.StatsError.{StatsError}
use Rattle.vortex_rewrite.specs.Answers.{IfSupported}
use Rattle.vortex_rewrite.specs.HookFaults.{IsHookFault}
use Rattle.vortex_rewrite.specs.declared.hook_fault.HookFault.{HookFault}
use Rattle.vortex_rewrite.specs.declared.hook_fault.HookFault.TheVariants as fault
use Rattle.vortex_zone_map.specs.Zone.{Entries, ZoneData}
use Rattle.vortex_prune.specs.Binding.PartBinder.{column_literal, literal_if}
use Rattle.vortex_zone_map.specs.StatValues.{stat_value}
use Rattle.vortex_zone_map.proofs.ZoneLemmas.{named_at}

abbrev answer : Constant → Result Constant StatsError
answer s = Ok s

made_literal : (a : Result DType BaseError) (v : Option ScalarValue) (s : Constant) → IfSupported a (λ t. record { dtype = t; value = v }) (answer s) → Some (literal s) ≡ literal_if a v
made_literal (Ok t) v s h = ap (λ x. Some (literal x)) h
made_literal (Err f) v s h = cc

-- and the literal of what it tells is the one that is wanted
pub literal_known : (scope : List Named) (zone : ZoneData) (f : AggregateFnRef) (i n : ℕ) (es : Entries) (t : DType) (s : Constant) (e : Tree Place) → option_map (λ (c : Named). c.1) (slice_get scope i) ≡ Some t → slice_get zone.stats i ≡ Some es
    → IfSupported (stat_type f t) (λ u. record { dtype = u; value = stat_value f es n }) (answer s) → e ≡ literal s → Some e ≡ column_literal f (slice_get scope i) (slice_get zone.stats i) n
literal_known scope zone f i n es t s e there set made built =
    let c = named_at (slice_get scope i) t there in
    ap Some built ∙ made_literal (stat_type f t) (stat_value f es n) s made ∙ ap (λ u. literal_if (stat_type f u) (stat_value f es n)) (sym c.2) ∙
    sym (ap₂ (λ x y. column_literal f x y n) c.1 set)

-- a binder that is refused for memory alone names no fault
pub for_memory_alone : {X : Type 0} (r : Result X HookFault) (P Q : X → Type 0) (can_fault : ℕ → Bool) → ((x : X) → P x → Q x) → MatchResult r P (λ f. f ≡ fault.Memory alloc_error) → MatchResult r Q (IsHookFault can_fault)
for_memory_alone (Ok x) P Q can_fault f h = f x h
for_memory_alone (Err e) P Q can_fault f h = subst (IsHookFault can_fault) (sym h) tt
