-- What is read out of the values of a set.
use Rattle.std.specs.Prelude.{◌≡◌, Bool, false, Option, Some, None, Result, Ok, Err, IsTrue, ◌⊎◌, ⊤}
use Rattle.vortex_base.specs.declared.dtype.DType.{DType}
use Rattle.vortex_base.specs.declared.scalar_value.ScalarValue.{ScalarValue}
use Rattle.vortex_base.specs.Data.Values.{is_value}
use Rattle.vortex_base.specs.Data.Scalars.{is_long}
use Rattle.vortex_stats.specs.declared.precision.Precision.{Precision}
use Rattle.vortex_stats.specs.declared.precision.Precision.TheVariants.{Exact, Inexact, Absent}
use Rattle.vortex_stats.specs.declared.stat.Stat.{Stat}
use Rattle.vortex_stats.specs.Stat.{stat_dtype}
use Rattle.vortex_stats.specs.Sets.Entries.{entry_value}
use Rattle.vortex_stats.specs.Sets.TypedStats.{TypedStats}
use Rattle.vortex_stats.specs.declared.error.StatsError.{StatsError}
use Rattle.vortex_stats.specs.declared.error.StatsError.TheVariants.{Memory, Mismatch}

-- `can_read` holds of a value that can be read, `reads` of a value and what it is read as; `takes_memory` tells whether reading takes memory
module _ {X : Type 0} (can_read : ScalarValue → Type 0) (reads : ScalarValue → X → Type 0) (takes_memory : Bool) where
  -- the value was read as one of the type; or it is none of the type or can't be read, and that is a Mismatch; or memory was refused to a copy of it, which takes some, or to its reading
  abbrev pub IsReadAs : DType → ScalarValue → Result X StatsError → Type 0
  IsReadAs t v (Ok x) = IsTrue (is_value v t) × can_read v × reads v x
  IsReadAs t v (Err Mismatch) = (is_value v t ≡ false) ⊎ (¬ (can_read v))
  IsReadAs t v (Err (Memory e)) = IsTrue (is_value v t) × (IsTrue (is_long (Some v)) ⊎ (IsTrue takes_memory × can_read v))
  IsReadAs t v (Err e) = ⊥

  -- the same of the value with its precision, whose case is kept
  abbrev pub IsPreciselyReadAs : DType → Precision ScalarValue → Result (Precision X) StatsError → Type 0
  IsPreciselyReadAs t (Exact v) (Ok (Exact x)) = IsReadAs t v (Ok x)
  IsPreciselyReadAs t (Exact v) (Err e) = IsReadAs t v (Err e)
  IsPreciselyReadAs t (Inexact v) (Ok (Inexact x)) = IsReadAs t v (Ok x)
  IsPreciselyReadAs t (Inexact v) (Err e) = IsReadAs t v (Err e)
  IsPreciselyReadAs t Absent (Ok Absent) = ⊤
  IsPreciselyReadAs t p r = ⊥

  -- the same under a type that may be missing; there is no value without one
  abbrev pub IsReadUnder : Option DType → Precision ScalarValue → Result (Precision X) StatsError → Type 0
  IsReadUnder None p r = r ≡ Ok Absent
  IsReadUnder (Some t) p r = IsPreciselyReadAs t p r

  -- the statistic's value, read under the statistic's type
  abbrev pub IsReadFrom : Stat → TypedStats → Result (Precision X) StatsError → Type 0
  IsReadFrom s v r = IsReadUnder (stat_dtype s v.dtype) (entry_value s v.values) r
