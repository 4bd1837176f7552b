-- Three parts whose statistics are true, their zones and their map: on these the clauses with premises are witnessed.
use Rattle.std.specs.Prelude.{◌≡◌, ◌<◌, ℕ, zero, suc, List, [], ◌∷◌, Option, Some, None, refl}
use Rattle.std.specs.List.{AllByRecursion}
use Rattle.std.proofs.Common.{arith}
use Rattle.std.proofs.lemmas.List.Elements.{All-from_recursion}
use Rattle.vortex_base.specs.declared.dtype.DType.TheVariants as dtype
use Rattle.vortex_base.specs.declared.scalar_value.ScalarValue.{ScalarValue}
use Rattle.vortex_base.specs.declared.scalar_value.ScalarValue.TheVariants as value
use Rattle.vortex_base.specs.declared.types.Nullability.TheVariants.{NonNullable}
use Rattle.vortex_base.specs.declared.types.PType.TheVariants as ptype
use Rattle.vortex_base.specs.Data.Columns.{ChunkData, ColumnData}
use Rattle.vortex_expr.specs.declared.scalar_fn.Operator.TheVariants.{Gt}
use Rattle.vortex_expr.specs.Trees.Tree.{Tree, Place, binary, column, literal}
use Rattle.vortex_prune.proofs.Honesty.MeasuredParts.{measured_is_true_part}
use Rattle.vortex_prune.specs.Part.{AreParts, IsPart, IsPartOf, IsTruePart, PartData, zone_of}
use Rattle.vortex_zone_map.specs.Zone.{Entries, IsZone, ZoneData}
use Rattle.vortex_prune.specs.Zones.{HaveScope, zones_of}
use Rattle.vortex_zone_map.specs.ZoneMaps.{IsMapOf, MapData, zone_map}
use Rattle.vortex_stats.specs.Stat.{all_stats}
use Rattle.vortex_zone_map.proofs.WorkedRows.Witnesses.{each_of_three, i64_type, known, num, scope}

-- ---- a column of numbers and a predicate over it

abbrev pub a : Tree Place
a = column (record { index = 0; dtype = i64_type })

abbrev pub lit : ℕ → Tree Place
lit n = literal (record { dtype = dtype.Primitive ptype.I64 NonNullable; value = Some (num n) })

abbrev pub above_ten : Tree Place
above_ten = binary Gt a (lit 10)

-- ---- the parts

abbrev pub values_of : List (Option ScalarValue) → ColumnData
values_of vs = record { dtype = i64_type; values = vs; size = 16 }

abbrev pub chunk_of : List (Option ScalarValue) → ChunkData
chunk_of vs = record { scope = scope; columns = values_of vs ∷ [] }

abbrev pub part : List (Option ScalarValue) → Entries → PartData
part vs set = record { chunk = chunk_of vs; stats = set ∷ [] }

-- 3 and null: no row is above ten
abbrev pub low : PartData
low = part (Some (num 3) ∷ None ∷ []) (known 3 3 3 1)

-- 5 and 30: one is
abbrev pub mixed : PartData
mixed = part (Some (num 5) ∷ Some (num 30) ∷ []) (known 5 30 35 0)

-- 20 and 30: both are
abbrev pub high : PartData
high = part (Some (num 20) ∷ Some (num 30) ∷ []) (known 20 30 50 0)

abbrev pub parts : List PartData
parts = low ∷ mixed ∷ high ∷ []

abbrev pub zones : List ZoneData
zones = zones_of parts

abbrev pub their_map : MapData
their_map = zone_map scope zones

-- ---- they meet the premises

pub low_is_true : IsTruePart low
unfolding all_stats
low_is_true = measured_is_true_part low.chunk low.stats refl refl

pub mixed_is_true : IsTruePart mixed
unfolding all_stats
mixed_is_true = measured_is_true_part mixed.chunk mixed.stats refl refl

pub high_is_true : IsTruePart high
unfolding all_stats
high_is_true = measured_is_true_part high.chunk high.stats refl refl

pub all_true : AllByRecursion IsTruePart parts
all_true = (low_is_true, (mixed_is_true, (high_is_true, tt)))

pub low_is_part : IsPart low
low_is_part = (refl, refl)

pub mixed_is_part : IsPart mixed
mixed_is_part = (refl, refl)

pub high_is_part : IsPart high
high_is_part = (refl, refl)

pub are_parts : AreParts parts
are_parts = each_of_three IsPart low mixed high low_is_part mixed_is_part high_is_part

pub have_scope : HaveScope scope parts
have_scope = All-from_recursion (λ (p : PartData). p.chunk.scope ≡ scope) parts (refl, (refl, (refl, tt)))

pub is_map : IsMapOf zones their_map
is_map = record {
  are_zones = each_of_three (λ zone. IsZone scope zone) (zone_of low) (zone_of mixed) (zone_of high) refl refl refl;
  same = refl;
}

pub low_is_in_its_zone : IsPartOf scope (zone_of low) low
low_is_in_its_zone = record { is_part = low_is_part; scoped = refl; known = refl }

pub mixed_is_in_its_zone : IsPartOf scope (zone_of mixed) mixed
mixed_is_in_its_zone = record { is_part = mixed_is_part; scoped = refl; known = refl }

pub high_is_in_its_zone : IsPartOf scope (zone_of high) high
high_is_in_its_zone = record { is_part = high_is_part; scoped = refl; known = refl }

-- what is so of the first two rows is so of each of two
pub below_two : (P : ℕ → Type 0) → P 0 → P 1 → (i : ℕ) → i < 2 → P i
below_two P p q zero less = p
below_two P p q (suc zero) less = q
below_two P p q (suc (suc i)) less = absurd (omega (arith, less))
