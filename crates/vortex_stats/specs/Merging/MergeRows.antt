-- Short names for the values of worked rows.
use Rattle.std.specs.Prelude.{ℕ, pos, true, false, [], ◌∷◌}
use Rattle.vortex_base.specs.declared.pvalue.PValue.TheVariants as number
use Rattle.vortex_base.specs.declared.scalar_value.ScalarValue.{ScalarValue}
use Rattle.vortex_base.specs.declared.scalar_value.ScalarValue.TheVariants as value
use Rattle.vortex_stats.specs.declared.precision.Precision.{Precision}
use Rattle.vortex_stats.specs.declared.precision.Precision.TheVariants.{Exact, Inexact}

abbrev pub i32 : ℕ → ScalarValue
i32 n = value.Primitive (number.I32 (pos n))

abbrev pub i64 : ℕ → ScalarValue
i64 n = value.Primitive (number.I64 (pos n))

abbrev pub u64 : ℕ → ScalarValue
u64 n = value.Primitive (number.U64 n)

-- the text of one character
abbrev pub letter : ℕ → ScalarValue
letter c = value.Utf8 (c ∷ [])

abbrev pub holds : Precision ScalarValue
holds = Exact (value.Bool true)

abbrev pub fails : Precision ScalarValue
fails = Exact (value.Bool false)

abbrev pub unknown : Precision ScalarValue
unknown = Inexact (value.Bool false)
