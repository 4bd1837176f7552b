-- Statistics of zones as a caller hands them in.
use Rattle.std.specs.Prelude.{◌≡◌, ℕ, ◌==◌, ◌&&◌, Bool, false, List, Option, None, Some, Result, Ok, Err, IsTrue, if◌then◌else◌, length, slice_get}
use Rattle.vortex_base.specs.declared.dtype.DType.{DType}
use Rattle.vortex_base.specs.declared.scalar_value.ScalarValue.{ScalarValue}
use Rattle.vortex_stats.specs.declared.precision.Precision.{Precision}
use Rattle.vortex_stats.specs.declared.precision.Precision.TheVariants.{Exact, Inexact, Absent}
use Rattle.vortex_stats.specs.declared.stat.Stat.{Stat}
use Rattle.vortex_stats.specs.Sets.Entries.{is_value_of}
use Rattle.vortex_stats.specs.Stat.{stat_dtype}
use Rattle.vortex_capi.specs.declared.statistic.Statistic.{Statistic}
use Rattle.vortex_capi.specs.declared.status.Status.{Status}
use Rattle.vortex_capi.specs.declared.status.Status.TheVariants.{BadKnown, BadLength, BadStat}
use Rattle.vortex_capi.specs.Given.{fill}
use Rattle.vortex_capi.specs.Measures.{stat_of}
use Rattle.vortex_capi.specs.Values.{value_at}

-- a statistic and its value
abbrev pub Entry : Type 0
Entry = Stat × Precision ScalarValue

abbrev pub typed_value : List ℕ → ℕ → List ℕ → ℕ → Option DType → Result ScalarValue Status
typed_value values start ends zone None = Err BadStat
typed_value values start ends zone (Some t) = value_at t values start ends zone

-- the value of a statistic of a column of a type that stands for a zone
abbrev pub present_value : DType → Stat → List ℕ → ℕ → List ℕ → ℕ → Result ScalarValue Status
present_value t s values start ends zone = typed_value values start ends zone (stat_dtype s t)

-- what was read is a value of a statistic of a column of a type
pub record HasPresent (t : DType) (s : Stat) (r : Result ScalarValue Status) : Type 0 where
  pub value : ScalarValue
  pub read : r ≡ Ok value
  pub fits : IsTrue (is_value_of (stat_dtype s t) value)

abbrev pub with_precision : (ScalarValue → Precision ScalarValue) → Result ScalarValue Status → Result (Precision ScalarValue) Status
with_precision f (Err s) = Err s
with_precision f (Ok v) = Ok (f v)

-- the value as a byte says that it is known
abbrev pub precise : Option ℕ → Result ScalarValue Status → Result (Precision ScalarValue) Status
precise None v = Err BadLength
precise (Some k) v =
    if k == 0 then Ok Absent else (
    if k == 1 then with_precision Exact v else (
    if k == 2 then with_precision Inexact v else Err BadKnown))

-- what a table says of a statistic in a zone
abbrev pub value_in : DType → Stat → List ℕ → List ℕ → ℕ → List ℕ → ℕ → Result (Precision ScalarValue) Status
value_in t s known values start ends zone = precise (slice_get known zone) (present_value t s values start ends zone)

abbrev pub paired : Stat → Result (Precision ScalarValue) Status → Result Entry Status
paired s (Err e) = Err e
paired s (Ok p) = Ok (s, p)

abbrev pub entry_of : DType → ℕ → Statistic → Result Stat Status → Result Entry Status
entry_of t zone x (Err e) = Err e
entry_of t zone x (Ok s) = paired s (value_in t s x.known.now x.values.now x.start x.ends.now zone)

-- the statistic and its value in a zone
abbrev pub entry : DType → ℕ → Statistic → Result Entry Status
entry t zone x = entry_of t zone x (stat_of t x.stat)

-- ---- the lengths of the arrays

abbrev pub values_fill : (zones : ℕ) → (values ends : List ℕ) → Option DType → Bool
values_fill zones values ends None = false
values_fill zones values ends (Some t) = fill t zones values ends

-- the arrays of a statistic of a column of a type have an element for each zone, and no more
abbrev pub fills_zones : DType → Stat → (zones : ℕ) → Statistic → Bool
fills_zones t s zones x = length x.known.now == zones && values_fill zones x.values.now x.ends.now (stat_dtype s t)

abbrev pub fills_as : DType → (zones : ℕ) → Statistic → Result Stat Status → Bool
fills_as t zones x (Err e) = false
fills_as t zones x (Ok s) = fills_zones t s zones x

-- so for the statistic of its number
abbrev pub fills : DType → (zones : ℕ) → Statistic → Bool
fills t zones x = fills_as t zones x (stat_of t x.stat)
