-- What a call that checks first and then takes memory answers.
use Rattle.std.specs.Prelude.{◌≡◌, Result, Ok, Err}
use Rattle.vortex_base.specs.declared.error.BaseError.{BaseError}
pub use Rattle.vortex_base.specs.Made.{Makes}

-- the check's fault, or else this value, unless memory was refused
abbrev pub Answers : {A B : Type 0} → Result A BaseError → B → Result B BaseError → Type 0
Answers (Err f) v r = r ≡ Err f
Answers (Ok a) v r = Makes v r

-- the fault that is to be given, or else the value, unless memory was refused
abbrev pub Gives : {B : Type 0} → Result B BaseError → Result B BaseError → Type 0
Gives (Err f) r = r ≡ Err f
Gives (Ok v) r = Makes v r
