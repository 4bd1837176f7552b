-- Worked rows of calls that are refused for memory: a combination, a scalar of a value, and a reading.
use Rattle.std.proofs.Common.{refl, sym, inl, inr}
use mathlib.Core.Bool.{true≢false}
use Rattle.std.specs.Prelude.{◌≡◌, ℕ, true, false, List, [], ◌∷◌, Some, None, Ok, Err, alloc_error, map, ⊤}
use Rattle.vortex_base.specs.declared.dtype.DType.{DType}
use Rattle.vortex_base.specs.declared.dtype.DType.TheVariants as dtype
use Rattle.vortex_base.specs.declared.types.Nullability.TheVariants.{NonNullable}
use Rattle.vortex_base.specs.declared.types.PType.TheVariants as ptype
use Rattle.vortex_base.specs.declared.scalar_value.ScalarValue.{ScalarValue}
use Rattle.vortex_base.specs.declared.scalar_value.ScalarValue.TheVariants as value
use Rattle.vortex_stats.specs.declared.error.StatsError.TheVariants.{Memory, Mismatch, Conflict}
use Rattle.vortex_stats.specs.declared.precision.Precision.{Precision}
use Rattle.vortex_stats.specs.declared.precision.Precision.TheVariants.{Exact, Inexact, Absent}
use Rattle.vortex_stats.specs.declared.stat.Stat.{Stat}
use Rattle.vortex_stats.specs.declared.stat.Stat.TheVariants.{Max, Min}
use Rattle.vortex_stats.specs.Merging.Combined.{Combines, Outcome}
use Rattle.vortex_stats.specs.Merging.MergeRows.{i32, letter}
use Rattle.vortex_stats.specs.Scalars.{IsAnswerOrMemory}
use Rattle.vortex_stats.specs.Copies.{set_copies}
use Rattle.vortex_stats.specs.Sets.Reading.{IsReadAs}

-- ---- a combination that agrees, and one that conflicts after its first entry

abbrev before : List (Stat × Precision ScalarValue)
before = (Min, Exact (letter 98)) ∷ []

abbrev after : List (Stat × Precision ScalarValue)
after = (Min, Exact (letter 98)) ∷ (Max, Exact (letter 99)) ∷ []

abbrev agrees : Outcome
agrees = record { entries = after; conflict = None }

abbrev conflicts : Outcome
conflicts = record { entries = after; conflict = Some Min }

-- lists of other lengths are two lists
grown : after ≡ before → ⊥
grown e = cc

-- refused for memory, it leaves the set as it was, also where it would conflict
refused : Combines agrees before before (Err (Memory alloc_error))
refused = refl

refused_before_conflict : Combines conflicts before before (Err (Memory alloc_error))
refused_before_conflict = refl

-- and has not written a part of the other set
not_in_part : Combines conflicts before after (Err (Memory alloc_error)) → ⊥
not_in_part h = grown h

not_all : Combines agrees before after (Err (Memory alloc_error)) → ⊥
not_all h = grown h

answered : Combines agrees before after (Ok tt)
answered = (refl, refl)

conflict : Combines conflicts before after (Err (Conflict Min))
conflict = (refl, refl)

no_other_refusal : Combines agrees before before (Err Mismatch) → ⊥
no_other_refusal h = h

-- ---- an answer that is checked first

-- memory is refused only where there is an answer
refused_answer : IsAnswerOrMemory {A = ℕ} (Ok 5) (Err (Memory alloc_error))
refused_answer = refl

fault_comes_first : IsAnswerOrMemory {A = ℕ} (Err Mismatch) (Err (Memory alloc_error)) → ⊥
fault_comes_first h = true≢false (sym h)

same_fault : IsAnswerOrMemory {A = ℕ} (Err Mismatch) (Err Mismatch)
same_fault = refl

no_fault : IsAnswerOrMemory {A = ℕ} (Ok 5) (Err Mismatch) → ⊥
no_fault h = cc

another_answer : IsAnswerOrMemory {A = ℕ} (Ok 5) (Ok 6) → ⊥
another_answer h = cc

-- ---- a value that is read

-- a reader that takes every value
abbrev any : ScalarValue → Type 0
any v = ⊤

abbrev reads_any : ScalarValue → ℕ → Type 0
reads_any v n = ⊤

abbrev bytes : ScalarValue
bytes = value.Binary (1 ∷ [])

abbrev i32_type : DType
i32_type = dtype.Primitive ptype.I32 NonNullable

-- bytes are copied, and a number isn't, so that its reading alone can take memory
bytes_refused : IsReadAs any reads_any false (dtype.Binary NonNullable) bytes (Err (Memory alloc_error))
bytes_refused = (refl, inl refl)

number_refused : IsReadAs any reads_any true i32_type (i32 5) (Err (Memory alloc_error))
number_refused = (refl, inr (refl, tt))

number_read : IsReadAs any reads_any false i32_type (i32 5) (Err (Memory alloc_error)) → ⊥
number_read (fits, inl copied) = true≢false (sym copied)
number_read (fits, inr (takes, can)) = true≢false (sym takes)

-- a value of another type is a mismatch before it is copied
bytes_of_another_type : IsReadAs any reads_any true i32_type bytes (Err (Memory alloc_error)) → ⊥
bytes_of_another_type h = true≢false (sym h.0)

-- ---- sets of which a copy takes memory

set_row : map set_copies ([] ∷ ((Max, Exact (i32 5)) ∷ (Min, Absent) ∷ []) ∷ ((Max, Exact (i32 5)) ∷ (Min, Inexact bytes) ∷ []) ∷ before ∷ []) ≡ false ∷ false ∷ true ∷ true ∷ []
set_row = refl
