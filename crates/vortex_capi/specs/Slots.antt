-- Statistics as bytes, and the arrays that they are written to.
use Rattle.std.specs.Prelude.{◌≡◌, ◌≢◌, ◌<◌, ◌⊎◌, ℕ, ◌+◌, List, [], ◌∷◌, ◌++◌, Option, None, Some, Result, Ok, Err, IfErr, IfOk, IsOk, OnErr, OnOk, drop, length, map, take}
use Rattle.std.specs.List.{flat_map}
use Rattle.vortex_base.specs.declared.dtype.DType.{DType}
use Rattle.vortex_base.specs.declared.scalar_value.ScalarValue.{ScalarValue}
use Rattle.vortex_stats.specs.declared.precision.Precision.{Precision}
use Rattle.vortex_stats.specs.declared.precision.Precision.TheVariants.{Exact, Inexact, Absent}
use Rattle.vortex_stats.specs.declared.stat.Stat.{Stat}
use Rattle.vortex_stats.specs.Stat.{stat_dtype}
use Rattle.vortex_capi.specs.declared.slots.Slots.{Slots}
use Rattle.vortex_capi.specs.declared.status.Status.{Status}
use Rattle.vortex_capi.specs.declared.status.Status.TheVariants.{BadLength, NoMemory, TooShort}
use Rattle.vortex_capi.specs.declared.fault.Fault.{Fault}
use Rattle.vortex_capi.specs.declared.fault.Refusal.{Refusal}
use Rattle.vortex_capi.specs.Statuses.{status_number}
use Rattle.vortex_capi.specs.Encoding.{bytes_of}
use Rattle.vortex_capi.specs.Types.{width}

-- how a statistic is known, and the bytes of its value
abbrev pub Slot : Type 0
Slot = ℕ × List ℕ

abbrev pub width_or_none : Option ℕ → ℕ
width_or_none None = 0
width_or_none (Some w) = w

abbrev pub typed_len : Option DType → ℕ
typed_len None = 0
typed_len (Some t) = width_or_none (width t)

-- how many bytes stand for a value that isn't known: as many as every value takes, where all take as many
abbrev pub blank_len : Stat → DType → ℕ
blank_len s t = typed_len (stat_dtype s t)

-- so many zeros, 8 at most
abbrev pub zeros : ℕ → List ℕ
zeros w = take w (0 ∷ 0 ∷ 0 ∷ 0 ∷ 0 ∷ 0 ∷ 0 ∷ 0 ∷ [])

abbrev pub known_slot : ℕ → ScalarValue → Slot
known_slot k v = (k, bytes_of v)

-- a statistic of a column of a type: 0 for an absent one, 1 for an exact and 2 for an inexact one, and its value's bytes
abbrev pub slot_of : DType → Stat → Precision ScalarValue → Slot
slot_of t s Absent = (0, zeros (blank_len s t))
slot_of t s (Exact v) = known_slot 1 v
slot_of t s (Inexact v) = known_slot 2 v

-- where each of the values ends that stand behind n bytes
abbrev pub ends_from : ℕ → List Slot → List ℕ
ends_from n [] = []
ends_from n (s ∷ ss) = (n + length s.1) ∷ ends_from (n + length s.1) ss

abbrev pub heap : List Slot → List ℕ
heap slots = flat_map (λ s. s.1) slots

-- these are the statistics, in order
pub record AreSlots (s : Slots) (slots : List Slot) : Type 0 where
  pub known : s.known.items ≡ map (λ x. x.0) slots
  pub ends : s.ends.items ≡ ends_from 0 slots
  pub values : s.values.items ≡ heap slots

-- these are the statistics, and the bytes of one more stand behind their values
pub record IsOpen (s : Slots) (slots : List Slot) (bytes : List ℕ) : Type 0 where
  pub known : s.known.items ≡ map (λ x. x.0) slots
  pub ends : s.ends.items ≡ ends_from 0 slots
  pub values : s.values.items ≡ heap slots ++ bytes

-- three arrays of a caller's
pub record Arrays : Type 0 where
  pub known : List ℕ
  pub ends : List ℕ
  pub values : List ℕ

-- the statistics stand in these arrays, of which the values keep what stood behind
pub record AreWritten (slots : List Slot) (old new : Arrays) : Type 0 where
  pub known : new.known ≡ map (λ x. x.0) slots
  pub ends : new.ends ≡ ends_from 0 slots
  pub values : new.values ≡ heap slots ++ drop (length (heap slots)) old.values

-- why the arrays can't take the statistics: there isn't a place for each, or too many, or the bytes of values are too few
abbrev pub IsLack : List Slot → Arrays → Status → Type 0
IsLack slots old BadLength = (length old.known ≢ length slots) ⊎ (length old.ends ≢ length slots)
IsLack slots old TooShort = length old.values < length (heap slots)
IsLack slots old s = ⊥

-- what a call that writes statistics does to arrays
pub record IsWritten (slots : List Slot) (old : Arrays) (result : Result (Unit {0}) Status) (new : Arrays) (len : ℕ) : Type 0 where
  pub told_len : len ≡ length (heap slots)
  pub written : OnOk result (AreWritten slots old new)
  pub unchanged : OnErr result (new ≡ old)
  pub lack : IfErr result (IsLack slots old)

-- statistics were made that are those to be told; memory may be refused
abbrev pub Makes : Result Slots Refusal → Result (List Slot) Refusal → Type 0
Makes (Ok s) told = (slots : List Slot) × (told ≡ Ok slots) × AreSlots s slots
Makes (Err r) told = r.status ≢ NoMemory → told ≡ Err r

-- why a call was refused but for memory: what was handed in is refused at a place, or the arrays can't take the statistics
abbrev pub IsRefusal : Result (List Slot) Refusal → Arrays → ℕ → ℕ → Fault → Type 0
IsRefusal (Err r) old result len fault = (result ≡ status_number r.status) × (fault ≡ r.fault)
IsRefusal (Ok slots) old result len fault = (s : Status) × (result ≡ status_number s) × IsLack slots old s × (len ≡ length (heap slots))

-- what a call makes of arrays that is to tell statistics, where it can
pub record IsTold (told : Result (List Slot) Refusal) (old : Arrays) (result : ℕ) (new : Arrays) (len : ℕ) (fault : Fault) : Type 0 where
  pub answered : result ≡ 0 → IfOk told (λ slots. AreWritten slots old new × (len ≡ length (heap slots)))
  pub answers : result ≡ 0 → IsOk told
  pub unchanged : result ≢ 0 → new ≡ old
  pub refused : result ≢ 0 → result ≢ 4 → IsRefusal told old result len fault
