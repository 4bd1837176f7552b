-- The whole input, as it is held once it is read.
use Rattle.std.specs.Prelude.{◌≡◌, ◌≤◌, ℕ, Bool, true, false, List, Option, Result, Err, IfSome, length}
use Rattle.vortex_text.specs.OpenTexts.{IsOpenText}
use Rattle.vortex_text.specs.Progress.{Progress}
use Rattle.vortex_text.specs.declared.input.ReadError.{ReadError}
use Rattle.vortex_text.specs.declared.input.ReadError.TheVariants.{Failed}
use Rattle.vortex_text.specs.declared.streams.TheConstants.{INPUT_LIMIT}

-- this text was pushed: all that the reader had, as far as it tells that, within the limit
pub record IsInput (known : Option (List ℕ)) (text : List ℕ) (progress : Progress) : Type 0 where
  pub pushed : IsOpenText text progress
  pub short : length text ≤ INPUT_LIMIT
  pub whole : IfSome known (λ bytes. text ≡ bytes)

-- some text was pushed that is so
abbrev pub HoldsInput : Option (List ℕ) → Progress → Type 0
HoldsInput known progress = (text : List ℕ) × IsInput known text progress

-- the input was not read, since a read failed
abbrev pub read_failed : {X : Type 0} → Result X ReadError → Bool
read_failed (Err Failed) = true
read_failed r = false
