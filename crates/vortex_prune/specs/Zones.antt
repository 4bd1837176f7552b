-- Parts of one scope with the map of their statistics, and its binder.
use Rattle.std.specs.Prelude.{◌≡◌, ℕ, Bool, List, Option, Some, None, map, option_map, All, slice_get}
use lib.Pointwise.{pointwise}
use Rattle.vortex_base.specs.declared.dtype.DType.TheVariants as dtype
use Rattle.vortex_base.specs.declared.scalar_value.ScalarValue.{ScalarValue}
use Rattle.vortex_base.specs.Data.Columns.{cell_value}
use Rattle.vortex_base.specs.Data.Scalars.{Constant}
use Rattle.vortex_base.specs.Data.Scopes.{Named}
use Rattle.vortex_expr.specs.Trees.Tree.{column}
use Rattle.vortex_base.specs.Data.Types.{dtype_eq}
use Rattle.vortex_prune.specs.Binding.Binders.{BinderAnswer}
use Rattle.vortex_prune.specs.Part.{AreParts, PartData, zone_of}
use Rattle.vortex_zone_map.specs.Zone.{ZoneData}
use Rattle.vortex_rewrite.specs.Rewriting.Proof.{Assignment}
use Rattle.vortex_zone_map.specs.ZoneMaps.{MapData, heads, zone_map, zone_place, zone_type}

-- parts of one scope
pub record ZonesData : Type 0 where
  pub scope : List Named
  pub parts : List PartData

-- ---- the columns of the table

-- ---- its values

-- what is known of parts
abbrev pub zones_of : List PartData → List ZoneData
zones_of parts = map zone_of parts

-- ---- its binder

-- the reference to that column; of an input that is no column nothing is known
abbrev pub zone_answer : List Named → BinderAnswer
zone_answer scope f (column c) t = option_map (λ k. column (record { index = k; dtype = zone_type f c.dtype })) (zone_place scope c.index f c.dtype)
zone_answer scope f x t = None

abbrev pub cell_at : List Constant → Option ℕ → Option ScalarValue
cell_at row None = None
cell_at row (Some k) = cell_value (slice_get row k)

-- what stands there in a row
abbrev pub zone_values : List Named → List Constant → Assignment
zone_values scope row f (column c) = cell_at row (zone_place scope c.index f c.dtype)
zone_values scope row f x = None

-- the row has the types of the table's columns
abbrev pub is_zone_row : List Named → List Constant → Bool
is_zone_row scope row = pointwise (λ h c. dtype_eq h.dtype c.dtype) (heads scope) row

-- the parts have this scope
abbrev pub HaveScope : List Named → List PartData → Type 0
HaveScope scope parts = All (λ part. part.chunk.scope ≡ scope) parts

-- what is kept of parts of one scope: beside them the map of what is known of them
pub record AreZones (z : ZonesData) (m : MapData) : Type 0 where
  pub scoped : HaveScope z.scope z.parts
  pub are_parts : AreParts z.parts
  pub mapped : m ≡ zone_map z.scope (zones_of z.parts)
