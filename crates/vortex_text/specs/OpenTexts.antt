-- A text that comes in piece by piece, as it is held.
use Rattle.std.specs.Prelude.{◌≡◌, ℕ, List, ◌++◌, Result, Ok, Err, length, ⊤}
use Rattle.std.specs.Str.Lines.{lines}
use Rattle.std.specs.declared.alloc.AllocError.{AllocError}
use Rattle.vortex_text.specs.Drafts.{reading_of}
use Rattle.vortex_text.specs.Lines.{Reading}
use Rattle.vortex_text.specs.Naming.{Query, named, named_from}
use Rattle.vortex_text.specs.Progress.{Progress}
use Rattle.vortex_text.specs.declared.bad_line.TextError.{TextError}
use Rattle.vortex_text.specs.declared.bad_line.TextError.TheVariants as errors
use Rattle.vortex_text.specs.declared.naming.InputError.{InputError}
use Rattle.vortex_text.specs.declared.naming.InputError.TheVariants as input
use Rattle.vortex_text.specs.declared.open_line.OpenLine.{OpenLine}
use Rattle.vortex_text.specs.declared.open_text.State.{State}
use Rattle.vortex_text.specs.declared.open_text.State.TheVariants as state

-- what a text names whose last lines are the open one with these bytes behind it
abbrev pub named_behind : OpenLine → List ℕ → Result Query ℕ
named_behind o more = named_from o.number (reading_of o.draft) (lines (o.line.items ++ more))

-- an error with the bad line's bytes beside it tells the same; memory may be refused for them
abbrev pub KeepsError : InputError → TextError → Type 0
KeepsError error errors.Memory = ⊤
KeepsError input.Memory (errors.BadLine kept) = ⊥
KeepsError (input.BadLine bad) (errors.BadLine kept) = kept.number ≡ bad.number

-- What a call answers that reads these lines after r, the first of them with number n, and leaves s: whatever lines come behind them, all name the same, or have the same first bad line. Memory may be refused.
abbrev pub GoesOn : ℕ → Reading → List (List ℕ) → Result ℕ TextError → Reading → Type 0
GoesOn n r ls (Ok m) s = (more : List (List ℕ)) → named_from n r (ls ++ more) ≡ named_from m s more
GoesOn n r ls (Err errors.Memory) s = ⊤
GoesOn n r ls (Err (errors.BadLine bad)) s = (more : List (List ℕ)) → named_from n r (ls ++ more) ≡ Err bad.number

-- What a call answers that takes more bytes of the text: whatever comes behind those, the text names the same, or they have its first bad line. Memory may be refused.
abbrev pub TakesBytes : OpenLine → List ℕ → Result OpenLine TextError → Type 0
TakesBytes old bytes (Ok new) = (more : List ℕ) → named_behind old (bytes ++ more) ≡ named_behind new more
TakesBytes old bytes (Err errors.Memory) = ⊤
TakesBytes old bytes (Err (errors.BadLine bad)) = (more : List ℕ) → named_behind old (bytes ++ more) ≡ Err bad.number

-- a call that was to tell what a text names answers so; memory may be refused
abbrev pub Tells : {X : Type 0} → (X → Query) → Result X TextError → Result Query ℕ → Type 0
Tells view (Ok x) says = says ≡ Ok (view x)
Tells view (Err errors.Memory) says = ⊤
Tells view (Err (errors.BadLine bad)) says = says ≡ Err bad.number

-- whatever comes behind this text, what the whole names is known from what is held
abbrev pub HasRead : List ℕ → State → Type 0
HasRead text (state.Open o) = (more : List ℕ) → named (text ++ more) ≡ named_behind o more
HasRead text (state.Bad bad) = (more : List ℕ) → named (text ++ more) ≡ Err bad.number
HasRead text state.Refused = ⊥

-- What a call answers that takes more bytes of the text: whatever comes behind them, what is held says the same of the whole. Memory may be refused.
abbrev pub StateTakes : State → List ℕ → Result State AllocError → Type 0
StateTakes old bytes (Ok new) = (text : List ℕ) → HasRead text old → HasRead (text ++ bytes) new
StateTakes old bytes (Err refused) = ⊤

-- this text was pushed, and nothing else
pub record IsOpenText (text : List ℕ) (progress : Progress) : Type 0 where
  pub taken : progress.taken ≡ length text
  pub read : HasRead text progress.state

-- memory was refused to it, so it can't go on
abbrev pub IsRefused : Progress → Type 0
IsRefused progress = progress.state ≡ state.Refused
