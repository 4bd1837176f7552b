-- The causes of a refusal by number, and what is said of a refusal for memory.
use Rattle.std.specs.Prelude.{ℕ, Result, Err, ⊤}
use Rattle.vortex_stats.specs.declared.error.StatsError.{StatsError}
use Rattle.vortex_stats.specs.declared.error.StatsError.TheVariants.{Memory, NotPredicate, Mismatch, Unsupported, Conflict, Binder, Rule, OpenProof, TooLarge}

abbrev pub error_number : StatsError → ℕ
error_number (Memory e) = 1
error_number NotPredicate = 2
error_number Mismatch = 3
error_number Unsupported = 4
error_number (Conflict stat) = 5
error_number (Binder fault) = 6
error_number (Rule fault) = 7
error_number OpenProof = 8
error_number TooLarge = 9

-- a fact wherever memory was refused
abbrev pub OnMemory : {A : Type 0} → Result A StatsError → Type 0 → Type 0
OnMemory (Err (Memory e)) P = P
OnMemory r P = ⊤
