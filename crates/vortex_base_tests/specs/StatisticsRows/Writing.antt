-- The batches of a column as they were written, one behind another.
use Rattle.std.specs.Prelude.{Bool, true, false, List, [], ◌∷◌, IsSome}
use Rattle.vortex_base.specs.Data.Columns.{ColumnData, appended}
use Rattle.vortex_stats.specs.Measuring.Measured.{measured_value}
use Rattle.vortex_stats.specs.declared.stat.Stat.{Stat}
use Rattle.vortex_stats.specs.declared.stat.Stat.TheVariants.{Max, Min, Sum, NullCount, UncompressedSizeInBytes}

-- the first batch with the others appended in order, sizes added
abbrev pub written : ColumnData → List ColumnData → ColumnData
written c [] = c
written c (d ∷ ds) = written (appended c d) ds

-- the bounds, the sum, the nulls and the size: what batches have adds up to what all of them have
abbrev pub adds_up : Stat → Bool
adds_up Max = true
adds_up Min = true
adds_up Sum = true
adds_up NullCount = true
adds_up UncompressedSizeInBytes = true
adds_up s = false

-- each batch has a value of the statistic, and so has what was written up to each of them: bounds of some value, a sum or count that stays in its type
abbrev pub IsMeasuredThroughout : Stat → ColumnData → List ColumnData → Type 0
IsMeasuredThroughout s c [] = IsSome (measured_value s c)
IsMeasuredThroughout s c (d ∷ ds) = IsSome (measured_value s c) × (IsSome (measured_value s d) × IsMeasuredThroughout s (appended c d) ds)
