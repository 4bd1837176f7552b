-- What a call answers that reads a part of a line.
use Rattle.std.specs.Prelude.{◌≡◌, Bool, if◌then◌else◌, Option, None, Some, Result, Ok, Err, option_and_then, ⊤}
use Rattle.vortex_syntax.specs.declared.line_error.LineError.{LineError}
use Rattle.vortex_syntax.specs.declared.line_error.LineError.TheVariants as errors

-- a line is bad, wherever that is
abbrev pub IsBad : LineError → Type 0
IsBad errors.Memory = ⊥
IsBad (errors.Bad fault) = ⊤

-- there is nothing to be read where the line is bad; memory may be refused
abbrev pub Fails : {Y : Type 0} → LineError → Option Y → Type 0
Fails errors.Memory read = ⊤
Fails (errors.Bad fault) read = read ≡ None

-- what a call returned, seen by view, is what is to be read
abbrev pub Gives : {X Y : Type 0} → (X → Y) → Result X LineError → Option Y → Type 0
Gives view (Ok x) read = read ≡ Some (view x)
Gives view (Err e) read = Fails e read

-- a call left what is to be read
abbrev pub Changes : {X : Type 0} → Result (Unit {0}) LineError → Option X → X → Type 0
Changes (Ok x) read new = read ≡ Some new
Changes (Err e) read new = Fails e read

abbrev pub when : {X : Type 0} → Bool → X → Option X
when b x = if b then Some x else None

infixl 10 ◌>>=◌
abbrev pub ◌>>=◌ : {A B : Type 0} → Option A → (A → Option B) → Option B
o >>= f = option_and_then f o

-- a call left one part of what is to be read, and returned the other
abbrev pub GivesAndChanges : {X Y Z : Type 0} → (X → Y) → Result X LineError → Option (Z × Y) → Z → Type 0
GivesAndChanges view (Ok x) read new = read ≡ Some (new, view x)
GivesAndChanges view (Err e) read new = Fails e read
