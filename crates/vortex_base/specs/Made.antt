-- What a call that can be refused for memory alone answers.
use Rattle.std.specs.Prelude.{◌≡◌, Result, MatchResult, alloc_error}
use Rattle.vortex_base.specs.declared.error.BaseError.{BaseError}
use Rattle.vortex_base.specs.declared.error.BaseError.TheVariants.{Memory}

-- this value, unless memory was refused
abbrev pub Makes : {B : Type 0} → B → Result B BaseError → Type 0
Makes v r = MatchResult r (λ w. w ≡ v) (λ f. f ≡ Memory alloc_error)
