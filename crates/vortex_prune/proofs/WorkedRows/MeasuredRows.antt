-- A worked row of the sets that are measured of a chunk's columns, found by computation alone.
use Rattle.std.specs.Prelude.{◌≡◌, ℕ, Bool, true, false, List, [], ◌∷◌, Some, None, codes, pos, refl}
use Rattle.vortex_base.specs.declared.dtype.DType.TheVariants as dtype
use Rattle.vortex_base.specs.declared.types.Nullability.TheVariants.{Nullable, NonNullable}
use Rattle.vortex_base.specs.declared.types.PType.TheVariants as ptype
use Rattle.vortex_base.specs.declared.pvalue.PValue.TheVariants as number
use Rattle.vortex_base.specs.declared.scalar_value.ScalarValue.{ScalarValue}
use Rattle.vortex_base.specs.declared.scalar_value.ScalarValue.TheVariants as value
use Rattle.vortex_base.specs.Data.Columns.{ColumnData}
use Rattle.vortex_stats.specs.declared.precision.Precision.{Precision}
use Rattle.vortex_stats.specs.declared.precision.Precision.TheVariants.{Exact}
use Rattle.vortex_stats.specs.declared.stat.Stat.{Stat}
use Rattle.vortex_stats.specs.declared.stat.Stat.TheVariants.{IsConstant, IsSorted, IsStrictSorted, Max, Min, Sum, NullCount, UncompressedSizeInBytes}
use Rattle.vortex_stats.specs.Stat.{all_stats}
use Rattle.vortex_prune.specs.Part.{measured_sets}

abbrev i64 : ℕ → ScalarValue
i64 n = value.Primitive (number.I64 (pos n))

abbrev u64 : ℕ → ScalarValue
u64 n = value.Primitive (number.U64 n)

-- 3, null and 5
abbrev numbers : ColumnData
numbers = record { dtype = dtype.Primitive ptype.I64 Nullable; values = Some (i64 3) ∷ None ∷ Some (i64 5) ∷ []; size = 24 }

-- the text b, twice, and then a
abbrev texts : ColumnData
texts = record { dtype = dtype.Utf8 NonNullable; values = Some (value.Utf8 (codes "b")) ∷ Some (value.Utf8 (codes "b")) ∷ Some (value.Utf8 (codes "a")) ∷ []; size = 3 }

abbrev tell : Stat → Bool → Stat × Precision ScalarValue
tell s b = (s, Exact (value.Bool b))

abbrev of_numbers : List (Stat × Precision ScalarValue)
of_numbers =
    tell IsConstant false ∷ tell IsSorted true ∷ tell IsStrictSorted true ∷ (Max, Exact (i64 5)) ∷ (Min, Exact (i64 3)) ∷ (Sum, Exact (i64 8)) ∷ (NullCount, Exact (u64 1))
    ∷ (UncompressedSizeInBytes, Exact (u64 24)) ∷ []

abbrev of_texts : List (Stat × Precision ScalarValue)
of_texts =
    tell IsConstant false ∷ tell IsSorted false ∷ tell IsStrictSorted false ∷ (Max, Exact (value.Utf8 (codes "b"))) ∷ (Min, Exact (value.Utf8 (codes "a")))
    ∷ (NullCount, Exact (u64 0)) ∷ (UncompressedSizeInBytes, Exact (u64 3)) ∷ []

-- the columns' sets in their order, whatever stands beside a column; texts have no sum
each_column : measured_sets (numbers ∷ texts ∷ []) ≡ of_numbers ∷ of_texts ∷ []
unfolding all_stats
each_column = refl

no_columns : measured_sets [] ≡ []
no_columns = refl
