-- What pruning by a map of zones is refused for.
use Rattle.std.proofs.Common.{◌≡◌, ◌<◌, ℕ, zero, suc, Bool, true, false, not as not_b, List, [], ◌∷◌, Option, Some, None, Result, Ok, Err, IfErr, ap, arith, length, map, refl, subst, sym, ◌∙◌}
use Rattle.std.specs.Prelude.{if◌then◌else◌, slice_get}
use Rattle.std.proofs.lemmas.List.{length-map}
use Rattle.std.proofs.lemmas.Option.{same_Some}
use Rattle.vortex_expr.specs.Trees.Tree.{Tree, Place, has_bare_column}
use Rattle.vortex_base.specs.declared.dtype.DType.{DType}
use Rattle.vortex_rewrite.proofs.Rewriting.CauseLemmas.{either-left, either-right}
use Rattle.vortex_prune.proofs.Binding.BoundValues.{met-const}
use Rattle.vortex_prune.proofs.Scanning.ScanRefused.{asking_refused, memory_alone_by}
use Rattle.vortex_prune.specs.Binding.Binders.{BinderAnswer}
use Rattle.vortex_prune.specs.Binding.BoundTo.{binding_causes}
use Rattle.vortex_rewrite.specs.Causes.{Causes, IsRefusal, no_causes}
use Rattle.vortex_prune.specs.Scanning.ScanRefusals.{causes_by}
use Rattle.vortex_rewrite.specs.Rewriting.Lawful.{OwnRule}
use Rattle.vortex_rewrite.specs.Rewriting.Falsifiers.{falsifier, satisfier}
use Rattle.vortex_rewrite.specs.Answers.{IsMemory}
use Rattle.vortex_rewrite.specs.Rewriting.Proof.{is_open}
use Rattle.vortex_prune.specs.Scanning.ZoneScans.{causes_over, is_left_open, kept, most_causes, open_causes}
use Rattle.vortex_stats.specs.declared.error.BinderFault.TheVariants as binder_fault
use Rattle.vortex_stats.specs.declared.error.RuleFault.TheVariants as rule_fault
use Rattle.vortex_stats.specs.declared.error.StatsError.{StatsError}
use Rattle.vortex_stats.specs.declared.error.StatsError.TheVariants as fault
use mathlib.Core.Bool.{true≢false}

-- ---- a proof that is left open

pub left_open : {X : Type 0} (parts : List X) (e : Tree Place) → 0 < length parts → has_bare_column e ≡ true → is_left_open (Some e) parts ≡ true
left_open [] e h bare = absurd (omega arith)
left_open (part ∷ parts) e h bare = bare

pub left_shut : {X : Type 0} (parts : List X) (e : Tree Place) → has_bare_column e ≡ false → is_left_open (Some e) parts ≡ false
left_shut [] e shut = refl
left_shut (part ∷ parts) e shut = shut

pub none_open : {X : Type 0} (parts : List X) → is_left_open None parts ≡ false
none_open [] = refl
none_open (part ∷ parts) = refl

pub no_parts_open : {X : Type 0} (parts : List X) (proof : Option (Tree Place)) → length parts ≡ 0 → is_left_open proof parts ≡ false
no_parts_open [] proof h = refl
no_parts_open (part ∷ parts) proof h = absurd (omega (arith, h))

-- ---- binding to the table

-- a binder that names no fault, and answers by no wrong type, is refused for memory alone, whatever else may be
module _ (answer : BinderAnswer) (IsMissing : DType → Tree Place → Type 0) (e : Tree Place) (causes : Causes) where
  for_memory : (f : StatsError) → IsRefusal (binding_causes answer IsMissing (λ k. false) e) f → ¬ (f ≡ fault.Binder binder_fault.WrongType) → IsRefusal causes f
  for_memory (fault.Memory a) h right = tt
  for_memory fault.NotPredicate h right = absurd h
  for_memory fault.Mismatch h right = absurd h
  for_memory fault.Unsupported h right = absurd h
  for_memory (fault.Conflict s) h right = absurd h
  for_memory (fault.Binder (binder_fault.Own k)) h right = absurd (true≢false (sym (met-const (false ≡ true) e h)))
  for_memory (fault.Binder binder_fault.WrongType) h right = absurd (right refl)
  for_memory (fault.Rule (rule_fault.Own k)) h right = absurd h
  for_memory (fault.Rule rule_fault.NotBool) h right = absurd h
  for_memory fault.OpenProof h right = absurd h
  for_memory fault.TooLarge h right = absurd h

  pub bound_for_memory : {X : Type 0} (r : Result X StatsError) → IfErr r (IsRefusal (binding_causes answer IsMissing (λ k. false) e)) → IfErr r (λ f. ¬ (f ≡ fault.Binder binder_fault.WrongType)) → IfErr r (IsRefusal causes)
  bound_for_memory (Ok x) h right = tt
  bound_for_memory (Err f) h right = for_memory f h right

-- ---- the whole scan

module _ {X : Type 0} (proved : Option (Tree Place) → X → Bool) (rules : List OwnRule) (p : Tree Place) (xs : List X) where
  -- a falsifier that is left open
  pub open_refuses : (proof : Option (Tree Place)) (f : StatsError) → proof ≡ falsifier rules p → IsRefusal (open_causes proof xs) f → IsRefusal (causes_over proved rules p xs) f
  open_refuses proof f same h = asking_refused (λ e. open_causes e xs) (λ e. open_causes e (kept (proved (falsifier rules p)) xs)) rules p proof (satisfier rules p) f same refl (either-left _ _ f h)

  -- a satisfier that is, and one of them that isn't skipped
  pub open_satisfier_refuses : (proof : Option (Tree Place)) (f : StatsError) → proof ≡ satisfier rules p → IsRefusal (open_causes proof (kept (proved (falsifier rules p)) xs)) f → IsRefusal (causes_over proved rules p xs) f
  open_satisfier_refuses proof f same h =
      asking_refused (λ e. open_causes e xs) (λ e. open_causes e (kept (proved (falsifier rules p)) xs)) rules p (falsifier rules p) proof f refl same (either-right _ _ f h)

  -- the same, where all of them are counted
  pub most_refuses : (proof : Option (Tree Place)) (f : StatsError) → proof ≡ falsifier rules p → IsRefusal (open_causes proof xs) f → IsRefusal (most_causes rules p xs) f
  most_refuses proof f same h = asking_refused (λ e. open_causes e xs) (λ e. open_causes e xs) rules p proof (satisfier rules p) f same refl (either-left _ _ f h)

  pub most_satisfier_refuses : (proof : Option (Tree Place)) (f : StatsError) → proof ≡ satisfier rules p → IsRefusal (open_causes proof xs) f → IsRefusal (most_causes rules p xs) f
  most_satisfier_refuses proof f same h = asking_refused (λ e. open_causes e xs) (λ e. open_causes e xs) rules p (falsifier rules p) proof f refl same (either-right _ _ f h)

-- by built-in rules it is refused for memory alone
left_shut_always : {X : Type 0} (parts : List X) (proof : Option (Tree Place)) → is_open proof ≡ false → is_left_open proof parts ≡ false
left_shut_always [] proof shut = refl
left_shut_always (part ∷ parts) proof shut = shut

memory_alone : {X : Type 0} (parts : List X) (proof : Option (Tree Place)) (f : StatsError) → is_open proof ≡ false → IsRefusal (open_causes proof parts) f → IsMemory f
memory_alone parts proof (fault.Memory a) shut h = refl
memory_alone parts proof fault.NotPredicate shut h = absurd h
memory_alone parts proof fault.Mismatch shut h = absurd h
memory_alone parts proof fault.Unsupported shut h = absurd h
memory_alone parts proof (fault.Conflict s) shut h = absurd h
memory_alone parts proof (fault.Binder (binder_fault.Own k)) shut h = absurd h
memory_alone parts proof (fault.Binder binder_fault.WrongType) shut h = absurd h
memory_alone parts proof (fault.Rule (rule_fault.Own k)) shut h = absurd h
memory_alone parts proof (fault.Rule rule_fault.NotBool) shut h = absurd h
memory_alone parts proof fault.OpenProof shut h = absurd (true≢false (sym h ∙ left_shut_always parts proof shut))
memory_alone parts proof fault.TooLarge shut h = absurd h

pub zones_refused_for_memory : {X Y : Type 0} (proved : Option (Tree Place) → Y → Bool) (rules : List OwnRule) (p : Tree Place) (xs : List Y) (r : Result X StatsError) → rules ≡ [] → IfErr r (IsRefusal (causes_over proved rules p xs)) → IfErr r IsMemory
zones_refused_for_memory proved rules p xs (Ok x) none h = tt
zones_refused_for_memory proved rules p xs (Err f) none h =
    memory_alone_by (λ proof. open_causes proof xs) (λ proof. open_causes proof (kept (proved (falsifier [] p)) xs)) p (memory_alone xs) (memory_alone (kept (proved (falsifier [] p)) xs)) f (subst (λ rs. IsRefusal (causes_over proved rs p xs) f) none h)

pub most_refused_for_memory : {X Y : Type 0} (rules : List OwnRule) (p : Tree Place) (xs : List Y) (r : Result X StatsError) → rules ≡ [] → IfErr r (IsRefusal (most_causes rules p xs)) → IfErr r IsMemory
most_refused_for_memory rules p xs (Ok x) none h = tt
most_refused_for_memory rules p xs (Err f) none h = memory_alone_by (λ proof. open_causes proof xs) (λ proof. open_causes proof xs) p (memory_alone xs) (memory_alone xs) f (subst (λ rs. IsRefusal (most_causes rs p xs) f) none h)

-- ---- lists that are refused alike

-- those that are as long
pub open_alike : {X Y : Type 0} (proof : Option (Tree Place)) (xs : List X) (ys : List Y) → length xs ≡ length ys → is_left_open proof xs ≡ is_left_open proof ys
open_alike proof [] [] h = refl
open_alike proof [] (y ∷ ys) h = absurd (omega (arith, h))
open_alike proof (x ∷ xs) [] h = absurd (omega (arith, h))
open_alike proof (x ∷ xs) (y ∷ ys) h = refl

-- those of which the same is skipped
module _ {X Y : Type 0} (f : X → Y) (proof : Option (Tree Place)) (skips : Y → Bool) (other : X → Bool) where
  one_kept : (b : Bool) (x : X) (ys : List Y) (xs : List X) → is_left_open proof ys ≡ is_left_open proof xs → is_left_open proof (if not_b b then f x ∷ ys else ys) ≡ is_left_open proof (if not_b b then x ∷ xs else xs)
  one_kept true x ys xs h = h
  one_kept false x ys xs h = refl

  pub kept_alike : (xs : List X) → ((i : ℕ) (x : X) → slice_get xs i ≡ Some x → skips (f x) ≡ other x) → is_left_open proof (kept skips (map f xs)) ≡ is_left_open proof (kept other xs)
  kept_alike [] same = refl
  kept_alike (x ∷ xs) same =
      ap (λ b. is_left_open proof (if not_b b then f x ∷ kept skips (map f xs) else kept skips (map f xs))) (same 0 x refl)
      ∙ one_kept (other x) x (kept skips (map f xs)) (kept other xs) (kept_alike xs (λ i y e. same (suc i) y e))

pub causes_alike : {X Y : Type 0} (f : X → Y) (proved : Option (Tree Place) → Y → Bool) (other : Option (Tree Place) → X → Bool) (rules : List OwnRule) (p : Tree Place) (xs : List X)
    → ((i : ℕ) (x : X) → slice_get xs i ≡ Some x → proved (falsifier rules p) (f x) ≡ other (falsifier rules p) x) → causes_over proved rules p (map f xs) ≡ causes_over other rules p xs
causes_alike f proved other rules p xs same = λ i.
    causes_by (λ proof. record no_causes { open_proof = open_alike proof (map f xs) xs (length-map xs f) i ≡ true })
    (λ proof. record no_causes { open_proof = kept_alike f proof (proved (falsifier rules p)) (other (falsifier rules p)) xs same i ≡ true })
    rules p

-- ---- a satisfier that is left open, and something that isn't skipped

pub some_open : {X : Type 0} (s : Option (Tree Place)) (xs : List X) (r : ℕ) → r < length xs → is_open s ≡ true → is_left_open s xs ≡ true
some_open s [] r less h = absurd (omega (arith, less))
some_open s (x ∷ xs) r less h = h

pub is_opened : {X : Type 0} (s : Option (Tree Place)) (xs : List X) → is_left_open s xs ≡ true → is_open s ≡ true
is_opened s [] h = absurd (true≢false (sym h))
is_opened s (x ∷ xs) h = h

module _ {X : Type 0} (skips : X → Bool) (s : Option (Tree Place)) (is_open_one : is_open s ≡ true) where
  open_if : (t : Bool) (x : X) (rest : List X) → t ≡ false → is_left_open s (if not_b t then x ∷ rest else rest) ≡ true
  open_if true x rest shown = absurd cc
  open_if false x rest shown = is_open_one

  open_later : (t : Bool) (x : X) (rest : List X) → is_left_open s rest ≡ true → is_left_open s (if not_b t then x ∷ rest else rest) ≡ true
  open_later true x rest h = h
  open_later false x rest h = is_open_one

  pub kept_open : (xs : List X) (i : ℕ) (x : X) → slice_get xs i ≡ Some x → skips x ≡ false → is_left_open s (kept skips xs) ≡ true
  kept_open [] i x at untrue = absurd cc
  kept_open (y ∷ xs) zero x at untrue = open_if (skips y) y (kept skips xs) (ap skips (same_Some y x at) ∙ untrue)
  kept_open (y ∷ xs) (suc i) x at untrue = open_later (skips y) y (kept skips xs) (kept_open xs i x at untrue)
