-- The entries of a set beside the type of their column.
use Rattle.std.specs.Prelude.{List, Option, Some, None, IsTrue}
use Rattle.vortex_base.specs.declared.dtype.DType.{DType}
use Rattle.vortex_base.specs.declared.scalar_value.ScalarValue.{ScalarValue}
use Rattle.vortex_base.specs.Data.Scalars.{Constant}
use Rattle.vortex_stats.specs.declared.stat.Stat.{Stat}
use Rattle.vortex_stats.specs.declared.precision.Precision.{Precision}
use Rattle.vortex_stats.specs.declared.precision.Precision.TheVariants.{Absent}
use Rattle.vortex_stats.specs.Precision.{precision_map}
use Rattle.vortex_stats.specs.Stat.{stat_dtype}
use Rattle.vortex_stats.specs.Scalars.{scalar_of}
use Rattle.vortex_stats.specs.Sets.Entries.{entry_value, with_entry, without_entry, entries_fit}

pub record TypedStats : Type 0 where
  pub values : List (Stat × Precision ScalarValue)
  pub dtype : DType

-- each value that is present is one of its statistic's type
abbrev pub AreFitting : TypedStats → Type 0
AreFitting v = IsTrue (entries_fit v.values v.dtype)

-- the case around the scalar of the type; there is no value without a type
abbrev pub scalar_under : Option DType → Precision ScalarValue → Precision Constant
scalar_under None p = Absent
scalar_under (Some t) p = precision_map (λ x. scalar_of x t) p

-- the statistic's value under the statistic's type
abbrev pub typed_value : Stat → TypedStats → Precision Constant
typed_value s v = scalar_under (stat_dtype s v.dtype) (entry_value s v.values)

-- the statistic has this value from here on
abbrev pub with_value : Stat → Precision ScalarValue → TypedStats → TypedStats
with_value s p v = record { values = with_entry s p v.values; dtype = v.dtype }

-- the statistic has no entry from here on
abbrev pub without_value : Stat → TypedStats → TypedStats
without_value s v = record { values = without_entry s v.values; dtype = v.dtype }

-- other values under the same type
abbrev pub with_values : List (Stat × Precision ScalarValue) → TypedStats → TypedStats
with_values es v = record { values = es; dtype = v.dtype }
