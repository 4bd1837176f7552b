-- What is read out of a value or null.
use Rattle.std.specs.Prelude.{Bool, Option, Result, Ok, Err, IsTrue, IsSomeAnd, IfSome, ℤ, ℕ, List}
use Rattle.vortex_base.specs.declared.error.BaseError.{BaseError}
use Rattle.vortex_base.specs.declared.error.BaseError.TheVariants.{Memory, Mismatch}
use Rattle.vortex_base.specs.declared.scalar_value.ScalarValue.{ScalarValue}
use Rattle.vortex_base.specs.declared.scalar_value.ScalarValue.TheVariants as value
use Rattle.vortex_base.specs.Data.Values.{number_of}

-- a truth that has P
abbrev pub IsBoolAnd : ScalarValue → (Bool → Type 0) → Type 0
IsBoolAnd (value.Bool b) P = P b
IsBoolAnd v P = ⊥

-- a whole number that has P, whatever its type
abbrev pub IsNumberAnd : ScalarValue → (ℤ → Type 0) → Type 0
IsNumberAnd (value.Primitive p) P = P (number_of p)
IsNumberAnd v P = ⊥

-- a text whose bytes have P
abbrev pub IsTextAnd : ScalarValue → (List ℕ → Type 0) → Type 0
IsTextAnd (value.Utf8 bs) P = P bs
IsTextAnd v P = ⊥

-- bytes that have P
abbrev pub AreBytesAnd : ScalarValue → (List ℕ → Type 0) → Type 0
AreBytesAnd (value.Binary bs) P = P bs
AreBytesAnd v P = ⊥

-- the value was read; or it is null or can't be read, and that is a Mismatch; or memory was refused to a value that can be read
abbrev pub IsReading : {X : Type 0} → (ScalarValue → Type 0) → (ScalarValue → X → Type 0) → Bool → Option ScalarValue → Result X BaseError → Type 0
IsReading can_read reads takes_memory v (Ok r) = IsSomeAnd v (λ x. can_read x × reads x r)
IsReading can_read reads takes_memory v (Err Mismatch) = IfSome v (λ x. ¬ (can_read x))
IsReading can_read reads takes_memory v (Err (Memory e)) = IsTrue takes_memory × IsSomeAnd v can_read
IsReading can_read reads takes_memory v (Err e) = ⊥
