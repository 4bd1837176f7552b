-- How far a text has come that comes in piece by piece, and what is always true of that.
use Rattle.std.specs.Prelude.{◌+◌, ◌≤◌, ℕ, length, ⊤}
use Rattle.vortex_text.specs.Drafts.{reading_of}
use Rattle.vortex_text.specs.Fitting.{FitsTogether}
use Rattle.vortex_text.specs.declared.open_text.State.{State}
use Rattle.vortex_text.specs.declared.open_text.State.TheVariants as state
use Rattle.vortex_text.specs.declared.streams.TheConstants.{INPUT_LIMIT}

-- how many bytes of a text were taken, and what they say
pub record Progress : Type 0 where
  pub taken : ℕ
  pub state : State

-- what lines say fits together, and there are no more of them than bytes
abbrev pub StateFits : ℕ → State → Type 0
StateFits taken (state.Open o) = FitsTogether (reading_of o.draft) × (o.number + length o.line.items ≤ taken + 1)
StateFits taken (state.Bad bad) = ⊤
StateFits taken state.Refused = ⊤

-- and the bytes are within the limit
pub record ProgressFits (progress : Progress) : Type 0 where
  pub short : progress.taken ≤ INPUT_LIMIT
  pub fits : StateFits progress.taken progress.state
