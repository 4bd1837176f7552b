-- What is refused for some causes is refused for causes that they bring about.
use Rattle.std.proofs.Common.{ℕ, Option, Some, None, Result, Ok, Err, IfErr, inl, inr}
use Rattle.std.specs.Prelude.{◌⊎◌, IsSomeAnd}
use Rattle.vortex_rewrite.specs.Causes.{Causes, IsRefusal, either_causes}
use Rattle.vortex_stats.specs.declared.error.BinderFault.TheVariants as binder_fault
use Rattle.vortex_stats.specs.declared.error.RuleFault.TheVariants as rule_fault
use Rattle.vortex_stats.specs.declared.error.StatsError.{StatsError}
use Rattle.vortex_stats.specs.declared.error.StatsError.TheVariants as fault

-- each cause of the one is, or brings about, that cause of the other
pub record BringAbout (c d : Causes) : Type 0 where
  pub rule : (k : ℕ) → c.rule k → d.rule k
  pub not_bool : c.not_bool → d.not_bool
  pub binder : (k : ℕ) → c.binder k → d.binder k
  pub wrong_type : c.wrong_type → d.wrong_type
  pub open_proof : c.open_proof → d.open_proof

pub refusal-more : (c d : Causes) (f : StatsError) → BringAbout c d → IsRefusal c f → IsRefusal d f
refusal-more c d (fault.Memory e) m h = tt
refusal-more c d fault.NotPredicate m h = h
refusal-more c d fault.Mismatch m h = h
refusal-more c d fault.Unsupported m h = h
refusal-more c d (fault.Conflict s) m h = h
refusal-more c d (fault.Binder (binder_fault.Own k)) m h = m.binder k h
refusal-more c d (fault.Binder binder_fault.WrongType) m h = m.wrong_type h
refusal-more c d (fault.Rule (rule_fault.Own k)) m h = m.rule k h
refusal-more c d (fault.Rule rule_fault.NotBool) m h = m.not_bool h
refusal-more c d fault.OpenProof m h = m.open_proof h
refusal-more c d fault.TooLarge m h = h

pub answer-more : {X : Type 0} (c d : Causes) (r : Result X StatsError) → BringAbout c d → IfErr r (IsRefusal c) → IfErr r (IsRefusal d)
answer-more c d (Ok x) m h = tt
answer-more c d (Err f) m h = refusal-more c d f m h

-- ---- what either of two may cause

pub either-left : (a b : Causes) (f : StatsError) → IsRefusal a f → IsRefusal (either_causes a b) f
either-left a b f h = refusal-more a (either_causes a b) f (record { rule = λ k x. inl x; not_bool = λ x. inl x; binder = λ k x. inl x; wrong_type = λ x. inl x; open_proof = λ x. inl x }) h

pub either-right : (a b : Causes) (f : StatsError) → IsRefusal b f → IsRefusal (either_causes a b) f
either-right a b f h = refusal-more b (either_causes a b) f (record { rule = λ k x. inr x; not_bool = λ x. inr x; binder = λ k x. inr x; wrong_type = λ x. inr x; open_proof = λ x. inr x }) h

-- a refusal by either is one by the one or by the other
pub either-refused : (a b : Causes) (f : StatsError) → IsRefusal (either_causes a b) f → IsRefusal a f ⊎ IsRefusal b f
either-refused a b (fault.Memory e) h = inl tt
either-refused a b fault.NotPredicate h = absurd h
either-refused a b fault.Mismatch h = absurd h
either-refused a b fault.Unsupported h = absurd h
either-refused a b (fault.Conflict s) h = absurd h
either-refused a b (fault.Binder (binder_fault.Own k)) h = h
either-refused a b (fault.Binder binder_fault.WrongType) h = h
either-refused a b (fault.Rule (rule_fault.Own k)) h = h
either-refused a b (fault.Rule rule_fault.NotBool) h = h
either-refused a b fault.OpenProof h = h
either-refused a b fault.TooLarge h = absurd h

pub either-refusal : (a b c d : Causes) (f : StatsError) → (IsRefusal a f → IsRefusal c f) → (IsRefusal b f → IsRefusal d f) → IsRefusal (either_causes a b) f → IsRefusal (either_causes c d) f
either-refusal a b c d f left right h =
    elim (either-refused a b f h) [
      | inl x ↦ either-left c d f (left x)
      | inr x ↦ either-right c d f (right x)
    ]

pub some-const : {X : Type 0} (o : Option X) (P : X → Type 0) (Q : Type 0) → ((x : X) → P x → Q) → IsSomeAnd o P → Q
some-const None P Q f h = absurd h
some-const (Some x) P Q f h = f x h
