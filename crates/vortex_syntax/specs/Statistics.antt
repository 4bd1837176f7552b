-- The words of a `stat` line.
use Rattle.std.specs.Prelude.{ℕ, List, Option, Some, None, codes, if◌then◌else◌}
use Rattle.std.specs.Str.{bytes_eq}
use Rattle.vortex_expr.specs.Meanings.Binding.{find_column}
use Rattle.vortex_base.specs.Data.Scopes.{Named}
use Rattle.vortex_base.specs.declared.dtype.DType.{DType}
use Rattle.vortex_base.specs.declared.scalar_value.ScalarValue.{ScalarValue}
use Rattle.vortex_stats.specs.Stat.{stat_dtype, stat_name}
use Rattle.vortex_stats.specs.declared.precision.Precision.{Precision}
use Rattle.vortex_stats.specs.declared.precision.Precision.TheVariants.{Exact, Inexact}
use Rattle.vortex_stats.specs.declared.stat.Stat.{Stat}
use Rattle.vortex_stats.specs.declared.stat.Stat.TheVariants as stat
use Rattle.vortex_syntax.specs.Fails.{◌>>=◌}
use Rattle.vortex_syntax.specs.Values.{value_of}
use Rattle.vortex_syntax.specs.Words.{Token, first_word, no_word, plain_word}

-- the statistic of a name, among the truths and the count that no type has
abbrev pub truth_stat_of : List ℕ → Option Stat
truth_stat_of word =
    if bytes_eq word (stat_name stat.IsConstant) then Some stat.IsConstant else (
    if bytes_eq word (stat_name stat.IsSorted) then Some stat.IsSorted else (
    if bytes_eq word (stat_name stat.IsStrictSorted) then Some stat.IsStrictSorted else (
    if bytes_eq word (stat_name stat.NaNCount) then Some stat.NaNCount else None)))

-- the statistic of a name
abbrev pub stat_of : List ℕ → Option Stat
stat_of word =
    if bytes_eq word (stat_name stat.Min) then Some stat.Min else (
    if bytes_eq word (stat_name stat.Max) then Some stat.Max else (
    if bytes_eq word (stat_name stat.NullCount) then Some stat.NullCount else (
    if bytes_eq word (stat_name stat.Sum) then Some stat.Sum else (
    if bytes_eq word (stat_name stat.UncompressedSizeInBytes) then Some stat.UncompressedSizeInBytes else truth_stat_of word))))

-- `exact` or `inexact`: a value with its precision
abbrev pub precision_of : List ℕ → ScalarValue → Option (Precision ScalarValue)
precision_of word v =
    if bytes_eq word (codes "exact") then Some (Exact v) else (
    if bytes_eq word (codes "inexact") then Some (Inexact v) else None)

-- `NAME STAT`: the place of the column, the statistic, and the type that it has there; and the words after them
abbrev pub claimed : List Named → List Token → Option ((ℕ × Stat × DType) × List Token)
claimed scope ws = do
  name ← plain_word ws
  column ← find_column scope name.0
  stat ← plain_word name.1
  s ← stat_of stat.0
  t ← stat_dtype s column.dtype
  Some ((column.index, s, t), stat.1)

-- `exact VALUE`, `inexact VALUE`: a value of this type with its precision, and nothing after it
abbrev pub claimed_value : DType → List Token → Option (Precision ScalarValue)
claimed_value t ws = do
  precision ← plain_word ws
  value ← first_word precision.1
  v ← value_of t value.0
  p ← precision_of precision.0 v
  none ← no_word value.1
  Some p
