-- Zones of a column of numbers and one of bytes, of which bounds and nulls are told.
use Rattle.std.specs.Prelude.{ℕ, ℤ, List, [], ◌∷◌, codes, negsuc, pos}
use Rattle.vortex_base.specs.Data.Scopes.{Named}
use Rattle.vortex_base.specs.declared.dtype.DType.TheVariants as dtype
use Rattle.vortex_base.specs.declared.pvalue.PValue.TheVariants as number
use Rattle.vortex_base.specs.declared.scalar_value.ScalarValue.TheVariants as value
use Rattle.vortex_base.specs.declared.types.Nullability.TheVariants.{Nullable}
use Rattle.vortex_base.specs.declared.types.PType.TheVariants as ptype
use Rattle.vortex_zone_map.specs.Zone.{Entries, ZoneData}
use Rattle.vortex_stats.specs.declared.precision.Precision.TheVariants.{Exact, Inexact}
use Rattle.vortex_stats.specs.declared.stat.Stat.TheVariants.{Max, Min, NullCount}

-- the columns of the zones
abbrev pub columns : List Named
columns = (codes "a", dtype.Primitive ptype.I64 Nullable) ∷ (codes "b", dtype.Binary Nullable) ∷ []

-- bounds of the first column
abbrev pub bounds : (low high : ℤ) → Entries
bounds low high = (Max, Exact (value.Primitive (number.I64 high))) ∷ (Min, Exact (value.Primitive (number.I64 low))) ∷ []

-- the nulls of the second one, and bytes that none of its bytes are above
abbrev pub nulls : (count : ℕ) → (last : List ℕ) → Entries
nulls n last = (NullCount, Exact (value.Primitive (number.U64 n))) ∷ (Max, Inexact (value.Binary last)) ∷ []

-- a zone of which they are told
abbrev pub zone : (low high : ℤ) → ℕ → List ℕ → (rows : ℕ) → ZoneData
zone low high n last rows = record { rows = rows; stats = bounds low high ∷ nulls n last ∷ [] }

-- three of them
abbrev pub three : List ZoneData
three = zone (pos 2) (pos 7) 0 (codes "pear") 3 ∷ zone (pos 8) (pos 9) 1 (codes "quince") 4 ∷ zone (negsuc 4) (pos 1) 5 (codes "fig") 5 ∷ []

-- with the first two of them joined
abbrev pub two : List ZoneData
two = zone (pos 2) (pos 9) 1 (codes "quince") 7 ∷ zone (negsuc 4) (pos 1) 5 (codes "fig") 5 ∷ []
