-- Three zones of a column of numbers and what their sets tell: on these the clauses with premises are witnessed.
use Rattle.std.specs.Prelude.{◌≡◌, ℕ, zero, suc, Bool, true, false, List, [], ◌∷◌, Some, codes, pos, refl, slice_get}
use Rattle.std.proofs.Common.{subst}
use Rattle.std.proofs.lemmas.Option.{same_Some}
use Rattle.vortex_base.specs.declared.dtype.DType.{DType}
use Rattle.vortex_base.specs.declared.dtype.DType.TheVariants as dtype
use Rattle.vortex_base.specs.declared.pvalue.PValue.TheVariants as number
use Rattle.vortex_base.specs.declared.scalar_value.ScalarValue.{ScalarValue}
use Rattle.vortex_base.specs.declared.scalar_value.ScalarValue.TheVariants as value
use Rattle.vortex_base.specs.declared.types.Nullability.TheVariants.{Nullable}
use Rattle.vortex_base.specs.declared.types.PType.TheVariants as ptype
use Rattle.vortex_base.specs.Data.Scopes.{Named}
use Rattle.vortex_zone_map.specs.Zone.{Entries, IsZone, ZoneData}
use Rattle.vortex_zone_map.specs.ZoneMaps.{IsMapOf, MapData, zone_map}
use Rattle.vortex_stats.specs.Sets.Claims.{count_value}
use Rattle.vortex_stats.specs.declared.precision.Precision.{Precision}
use Rattle.vortex_stats.specs.declared.precision.Precision.TheVariants.{Exact}
use Rattle.vortex_stats.specs.declared.stat.Stat.{Stat}
use Rattle.vortex_stats.specs.declared.stat.Stat.TheVariants.{IsConstant, IsSorted, IsStrictSorted, Max, Min, Sum, NullCount, UncompressedSizeInBytes}

-- all premises of a clause are met at once, and there its conclusion is false of a turned answer
pub record IsWitness {X : Type 0} (premises : Type 0) (concludes : X → Type 0) (turned : X) : Type 0 where
  pub met : premises
  pub refuted : concludes turned → ⊥

-- ---- a column of numbers

abbrev pub i64_type : DType
i64_type = dtype.Primitive ptype.I64 Nullable

abbrev pub num : ℕ → ScalarValue
num n = value.Primitive (number.I64 (pos n))

abbrev pub scope : List Named
scope = (codes "a", i64_type) ∷ []

abbrev tell : Stat → Bool → Stat × Precision ScalarValue
tell s b = (s, Exact (value.Bool b))

-- all statistics of two values that ascend, of a column of a declared size
abbrev pub known_in : (size least greatest sum nulls : ℕ) → Entries
known_in size least greatest sum nulls =
    tell IsConstant false ∷ tell IsSorted true ∷ tell IsStrictSorted true ∷ (Max, Exact (num greatest)) ∷ (Min, Exact (num least)) ∷ (Sum, Exact (num sum))
    ∷ (NullCount, Exact (count_value nulls)) ∷ (UncompressedSizeInBytes, Exact (count_value size)) ∷ []

abbrev pub known : (least greatest sum nulls : ℕ) → Entries
known least greatest sum nulls = known_in 16 least greatest sum nulls

-- what is so of three elements is so of each that stands at a place
pub each_of_three : {X : Type 0} (P : X → Type 0) (x y z : X) → P x → P y → P z → (i : ℕ) (w : X) → slice_get (x ∷ y ∷ z ∷ []) i ≡ Some w → P w
each_of_three P x y z p q r zero w there = subst P (same_Some x w there) p
each_of_three P x y z p q r (suc zero) w there = subst P (same_Some y w there) q
each_of_three P x y z p q r (suc (suc zero)) w there = subst P (same_Some z w there) r
each_of_three P x y z p q r (suc (suc (suc i))) w there = absurd cc

-- ---- the zones

abbrev pub zone : Entries → ZoneData
zone set = record { rows = 2; stats = set ∷ [] }

-- 3 and null, 5 and 30, 20 and 30
abbrev pub low : ZoneData
low = zone (known 3 3 3 1)

abbrev pub mixed : ZoneData
mixed = zone (known 5 30 35 0)

abbrev pub high : ZoneData
high = zone (known 20 30 50 0)

abbrev pub zones : List ZoneData
zones = low ∷ mixed ∷ high ∷ []

abbrev pub their_map : MapData
their_map = zone_map scope zones

pub is_map : IsMapOf zones their_map
is_map = record {
  are_zones = each_of_three (λ zone. IsZone scope zone) low mixed high refl refl refl;
  same = refl;
}
