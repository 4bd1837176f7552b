-- What a value that is known of a statistic tells, by how it is known and the count that it is.
use Rattle.std.specs.Prelude.{◌≡◌, ℕ, Bool, true, false, Option, Some, None}
use Rattle.vortex_base.specs.declared.aggregate.AggregateFnRef.{AggregateFnRef}
use Rattle.vortex_base.specs.declared.scalar_value.ScalarValue.{ScalarValue}
use Rattle.vortex_base.specs.declared.scalar_value.ScalarValue.TheVariants as value
use Rattle.vortex_stats.specs.declared.precision.Precision.{Precision}
use Rattle.vortex_stats.specs.declared.precision.Precision.TheVariants.{Exact, Inexact}
use Rattle.vortex_zone_map.specs.StatValues.{count_of, told_value}
use Rattle.vortex_zone_map.specs.declared.told.Told.{Told}
use Rattle.vortex_zone_map.specs.declared.told.Told.TheVariants as told

-- a value that is known exactly, or one that bounds the statistic's
abbrev pub known_as : (is_exact : Bool) → ScalarValue → Precision ScalarValue
known_as true v = Exact v
known_as false v = Inexact v

-- the value of a cell of which this is told
abbrev pub told_cell : ScalarValue → Told → Option ScalarValue
told_cell v told.Value = Some v
told_cell v (told.Truth b) = Some (value.Bool b)
told_cell v told.Nothing = None

-- it is what each value tells that is such a count, or none
abbrev pub IsToldOf : AggregateFnRef → (is_exact : Bool) → (count : Option ℕ) → (rows : ℕ) → Told → Type 0
IsToldOf f b c n t = (v : ScalarValue) → c ≡ count_of v → told_cell v t ≡ told_value f (known_as b v) n
