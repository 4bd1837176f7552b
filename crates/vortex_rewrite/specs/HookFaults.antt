-- Which faults a binder or a rule of a user may answer, and how refusals of the layers below are told by them.
use Rattle.std.specs.Prelude.{ℕ, Bool, IsTrue, ⊤}
use Rattle.vortex_base.specs.declared.error.BaseError.{BaseError}
use Rattle.vortex_base.specs.declared.error.BaseError.TheVariants as base
use Rattle.vortex_stats.specs.declared.error.StatsError.{StatsError}
use Rattle.vortex_stats.specs.declared.error.StatsError.TheVariants as stats
use Rattle.vortex_rewrite.specs.declared.hook_fault.HookFault.{HookFault}
use Rattle.vortex_rewrite.specs.declared.hook_fault.HookFault.TheVariants.{Memory, Own}

-- a refusal of memory, or one of the numbers that it names
abbrev pub IsHookFault : (can_fault : ℕ → Bool) → HookFault → Type 0
IsHookFault can_fault (Memory e) = ⊤
IsHookFault can_fault (Own k) = IsTrue (can_fault k)

-- the number by which a refusal of a layer below is told, but for one of memory
abbrev pub refused_number : ℕ
refused_number = 0xffff_ffff

-- a refusal of a node or a value
abbrev pub of_base : BaseError → HookFault
of_base (base.Memory e) = Memory e
of_base f = Own refused_number

-- a refusal of statistics or of a proof
abbrev pub of_stats : StatsError → HookFault
of_stats (stats.Memory e) = Memory e
of_stats f = Own refused_number
