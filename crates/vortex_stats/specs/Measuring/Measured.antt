-- The statistics of a column as its values, its type and its size have them.
use Rattle.std.specs.Prelude.{ℤ, pos, Bool, not, List, [], ◌∷◌, Option, Some, None, if◌then◌else◌}
use Rattle.std.specs.List.{filter, filter_map, find, list_all, list_any}
use Rattle.std.specs.Option.{option_map}
use Rattle.vortex_base.specs.declared.dtype.DType.{DType}
use Rattle.vortex_base.specs.declared.dtype.DType.TheVariants as dtype
use Rattle.vortex_base.specs.declared.types.PType.TheVariants as ptype
use Rattle.vortex_base.specs.declared.pvalue.PValue.TheVariants as number
use Rattle.vortex_base.specs.declared.scalar_value.ScalarValue.{ScalarValue}
use Rattle.vortex_base.specs.declared.scalar_value.ScalarValue.TheVariants as value
use Rattle.vortex_base.specs.Data.Columns.{ColumnData}
use Rattle.vortex_base.specs.Data.Values.{in_range}
use Rattle.vortex_stats.specs.declared.stat.Stat.{Stat}
use Rattle.vortex_stats.specs.declared.stat.Stat.TheVariants.{IsConstant, IsSorted, IsStrictSorted, Max, Min, Sum, NullCount, UncompressedSizeInBytes, NaNCount}
use Rattle.vortex_stats.specs.declared.precision.Precision.{Precision}
use Rattle.vortex_stats.specs.declared.precision.Precision.TheVariants.{Exact}
use Rattle.vortex_stats.specs.Copies.{is_copied}
use Rattle.vortex_stats.specs.Merging.Merges.{is_at_most}
use Rattle.vortex_stats.specs.Sets.Claims.{present, null_count, sum_of, is_constant, is_sorted, is_strict_sorted}
use Rattle.vortex_stats.specs.Stat.{stat_dtype, stat_eq}

-- the value that all are at most, if there is one
abbrev pub max_value : List ScalarValue → Option ScalarValue
max_value vs = find (λ v. list_all (λ w. is_at_most w v) vs) vs

-- the value that is at most all, if there is one
abbrev pub min_value : List ScalarValue → Option ScalarValue
min_value vs = find (λ v. list_all (λ w. is_at_most v w) vs) vs

-- the whole number as a value of the type of a sum or of a count, if that has it
abbrev pub number_in : Option DType → ℤ → Option ScalarValue
number_in (Some (dtype.Primitive ptype.U64 n)) (pos k) = if in_range (number.U64 k) then Some (value.Primitive (number.U64 k)) else None
number_in (Some (dtype.Primitive ptype.I64 n)) z = if in_range (number.I64 z) then Some (value.Primitive (number.I64 z)) else None
number_in t z = None

-- the value of a statistic of the column, if it has one
abbrev pub measured_value : Stat → ColumnData → Option ScalarValue
measured_value IsConstant c = Some (value.Bool (is_constant c.values))
measured_value IsSorted c = Some (value.Bool (is_sorted (present c.values)))
measured_value IsStrictSorted c = Some (value.Bool (is_strict_sorted (present c.values)))
measured_value Max c = max_value (present c.values)
measured_value Min c = min_value (present c.values)
measured_value Sum c = number_in (stat_dtype Sum c.dtype) (sum_of (present c.values))
measured_value NullCount c = number_in (stat_dtype NullCount c.dtype) (pos (null_count c.values))
measured_value UncompressedSizeInBytes c = number_in (stat_dtype UncompressedSizeInBytes c.dtype) (pos c.size)
measured_value NaNCount c = None

-- the statistics in order, each where it stands first
abbrev pub each_once : List Stat → List Stat
each_once [] = []
each_once (s ∷ ss) = s ∷ filter (λ t. not (stat_eq t s)) (each_once ss)

-- the exact entry of a statistic, if the column has a value of it
abbrev pub measured_entry : ColumnData → Stat → Option (Stat × Precision ScalarValue)
measured_entry c s = option_map (λ v. (s, Exact v)) (measured_value s c)

-- the entries of the wanted statistics, in the order wanted
abbrev pub measured : List Stat → ColumnData → List (Stat × Precision ScalarValue)
measured wanted c = filter_map (measured_entry c) (each_once wanted)

-- the value of one of them is a text or bytes, so that it is copied
abbrev pub measuring_copies : List Stat → ColumnData → Bool
measuring_copies wanted c = list_any (λ e. is_copied e.1) (measured wanted c)
