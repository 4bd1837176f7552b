-- Values with a precision as scalars of a type.
use Rattle.std.specs.Prelude.{◌≡◌, Some, Result, Ok, Err, IsOk, if◌then◌else◌}
use Rattle.vortex_base.specs.declared.dtype.DType.{DType}
use Rattle.vortex_base.specs.declared.scalar_value.ScalarValue.{ScalarValue}
use Rattle.vortex_base.specs.Data.Scalars.{Constant}
use Rattle.vortex_base.specs.Data.Values.{is_value}
use Rattle.vortex_stats.specs.declared.precision.Precision.{Precision}
use Rattle.vortex_stats.specs.declared.precision.Precision.TheVariants.{Exact, Inexact, Absent}
use Rattle.vortex_stats.specs.declared.error.StatsError.{StatsError}
use Rattle.vortex_stats.specs.declared.error.StatsError.TheVariants.{Memory, Mismatch}

-- the value under the type
abbrev pub scalar_of : ScalarValue → DType → Constant
scalar_of v t = record { dtype = t; value = Some v }

-- the scalar, or Mismatch where the value is none of the type
abbrev pub checked_scalar : ScalarValue → DType → Result Constant StatsError
checked_scalar v t = if is_value v t then Ok (scalar_of v t) else Err Mismatch

-- the case around the scalar; Mismatch where the value is none of the type
abbrev pub precise_scalar : Precision ScalarValue → DType → Result (Precision Constant) StatsError
precise_scalar (Exact v) t = if is_value v t then Ok (Exact (scalar_of v t)) else Err Mismatch
precise_scalar (Inexact v) t = if is_value v t then Ok (Inexact (scalar_of v t)) else Err Mismatch
precise_scalar Absent t = Ok Absent

-- the answer is the expected one, or there is one and memory was refused
abbrev pub IsAnswerOrMemory : {A : Type 0} → Result A StatsError → Result A StatsError → Type 0
IsAnswerOrMemory expected (Ok a) = expected ≡ Ok a
IsAnswerOrMemory expected (Err (Memory e)) = IsOk expected
IsAnswerOrMemory expected (Err e) = expected ≡ Err e
