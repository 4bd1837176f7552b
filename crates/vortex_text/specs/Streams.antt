-- What a writer has taken, and what streams tell of their failures.
use Rattle.std.specs.Prelude.{◌≡◌, ◌≢◌, ◌==◌, ◌<◌, ◌⊎◌, ℕ, Bool, true, false, List, ◌++◌, Option, None, Some, Result, Ok, Err, length}
use Rattle.std.specs.Io.KnownBytes.{Appends}

-- a front of the bytes was written, perhaps the whole
abbrev pub AppendsFront : Option (List ℕ) → Option (List ℕ) → List ℕ → Type 0
AppendsFront old new bytes = (front : List ℕ) × (rest : List ℕ) × (bytes ≡ front ++ rest) × Appends old new front

-- a front of the bytes was written that isn't the whole
abbrev pub AppendsProperFront : Option (List ℕ) → Option (List ℕ) → List ℕ → Type 0
AppendsProperFront old new bytes = (front : List ℕ) × (rest : List ℕ) × (bytes ≡ front ++ rest) × (0 < length rest) × Appends old new front

-- A stream tells whether a call of it has failed, `Some`, or doesn't tell, `None`. This is what a call makes of it that failed or not.
abbrev pub TellsFailure : Option Bool → Option Bool → (failed : Bool) → Type 0
TellsFailure None new failed = new ≡ None
TellsFailure (Some before) new true = new ≡ Some true
TellsFailure (Some before) new false = new ≡ Some before

-- no call has failed since: the stream tells what it told
abbrev pub HasNotFailed : (before after : Option Bool) → Type 0
HasNotFailed before after = after ≡ before

-- a write has failed, or taken nothing
abbrev pub takes_none : {E : Type 0} → Result ℕ E → Bool
takes_none (Ok n) = n == 0
takes_none (Err e) = true

-- a call has failed, as far as the stream tells
abbrev pub MayHaveFailed : Option Bool → Type 0
MayHaveFailed has_failed = has_failed ≢ Some false

-- the bytes were written, all of them if no call has failed, and else a front
abbrev pub AppendsUnlessFailed : (has_failed : Option Bool) → Option (List ℕ) → Option (List ℕ) → List ℕ → Type 0
AppendsUnlessFailed (Some false) old new bytes = Appends old new bytes
AppendsUnlessFailed has_failed old new bytes = AppendsFront old new bytes

-- Bytes went behind those that waited: a front of all of them was written, and the rest waits.
abbrev pub Passes : Option (List ℕ) → Option (List ℕ) → (waited waits : List ℕ) → List ℕ → Type 0
Passes old new waited waits bytes = (out : List ℕ) × (waited ++ bytes ≡ out ++ waits) × Appends old new out

-- a write failed, and cut the bytes off
abbrev pub IsCutOff : (has_failed : Option Bool) → Option (List ℕ) → Option (List ℕ) → List ℕ → Type 0
IsCutOff has_failed old new bytes = MayHaveFailed has_failed × AppendsProperFront old new bytes

-- no write has failed since, or one cut the bytes off, and no later one makes up for it
abbrev pub CutsWhereFailed : (before after : Option Bool) → Option (List ℕ) → Option (List ℕ) → List ℕ → Type 0
CutsWhereFailed before after old new bytes = HasNotFailed before after ⊎ AppendsProperFront old new bytes
