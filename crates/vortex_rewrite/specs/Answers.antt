-- What a call that takes memory answers.
use Rattle.std.specs.Prelude.{◌≡◌, Result, Ok, Err, MatchResult, alloc_error}
use Rattle.vortex_base.specs.declared.error.BaseError.{BaseError}
use Rattle.vortex_stats.specs.declared.error.StatsError.{StatsError}
use Rattle.vortex_stats.specs.declared.error.StatsError.TheVariants.{Memory, Unsupported}

-- memory was refused
abbrev pub IsMemory : StatsError → Type 0
IsMemory f = f ≡ Memory alloc_error

-- this is so of the answer, unless memory was refused
abbrev pub OkOrMemory : {B : Type 0} → Result B StatsError → (B → Type 0) → Type 0
OkOrMemory r P = MatchResult r P IsMemory

-- this value, unless memory was refused
abbrev pub Makes : {B : Type 0} → B → Result B StatsError → Type 0
Makes v r = OkOrMemory r (λ w. w ≡ v)

-- what is typed, and Unsupported where the table has no type
abbrev pub supported : {A : Type 0} → Result A BaseError → Result A StatsError
supported (Ok a) = Ok a
supported (Err f) = Err Unsupported

-- the value that is made of a type, unless memory was refused, and Unsupported where the table has no type
abbrev pub IfSupported : {A B : Type 0} → Result A BaseError → (A → B) → Result B StatsError → Type 0
IfSupported (Ok a) make r = Makes (make a) r
IfSupported (Err f) make r = r ≡ Err Unsupported
