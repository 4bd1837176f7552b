-- The refusals of pruning by what causes them.
use Rattle.std.specs.Prelude.{◌⊎◌, ℕ, ⊤}
use Rattle.vortex_stats.specs.declared.error.BinderFault.TheVariants as binder_fault
use Rattle.vortex_stats.specs.declared.error.RuleFault.TheVariants as rule_fault
use Rattle.vortex_stats.specs.declared.error.StatsError.{StatsError}
use Rattle.vortex_stats.specs.declared.error.StatsError.TheVariants.{Memory, NotPredicate, Mismatch, Unsupported, Conflict, Binder, Rule, OpenProof, TooLarge}

-- what has to be so where a call is refused for something other than memory
pub record Causes : Type 1 where
  -- a rule of the user answered its fault of this number
  pub rule : ℕ → Type 0
  -- a rule of the user proved by an expression that isn't of type Bool
  pub not_bool : Type 0
  -- a binder answered its fault of this number
  pub binder : ℕ → Type 0
  -- a binder answered by another type than was asked for
  pub wrong_type : Type 0
  -- a proof is left open
  pub open_proof : Type 0

-- memory was refused, or the cause of the refusal is there
abbrev pub IsRefusal : Causes → StatsError → Type 0
IsRefusal causes (Memory e) = ⊤
IsRefusal causes NotPredicate = ⊥
IsRefusal causes Mismatch = ⊥
IsRefusal causes Unsupported = ⊥
IsRefusal causes (Conflict stat) = ⊥
IsRefusal causes (Binder (binder_fault.Own k)) = causes.binder k
IsRefusal causes (Binder binder_fault.WrongType) = causes.wrong_type
IsRefusal causes (Rule (rule_fault.Own k)) = causes.rule k
IsRefusal causes (Rule rule_fault.NotBool) = causes.not_bool
IsRefusal causes OpenProof = causes.open_proof
IsRefusal causes TooLarge = ⊥

-- nothing but memory is refused
abbrev pub no_causes : Causes
no_causes = record { rule = λ k. ⊥; not_bool = ⊥; binder = λ k. ⊥; wrong_type = ⊥; open_proof = ⊥ }

-- what either of two may cause
abbrev pub either_causes : Causes → Causes → Causes
either_causes a b = record {
  rule = λ k. a.rule k ⊎ b.rule k;
  not_bool = a.not_bool ⊎ b.not_bool;
  binder = λ k. a.binder k ⊎ b.binder k;
  wrong_type = a.wrong_type ⊎ b.wrong_type;
  open_proof = a.open_proof ⊎ b.open_proof;
}
