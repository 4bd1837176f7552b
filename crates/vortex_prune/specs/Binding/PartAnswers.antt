-- What the statistics of a zone, and so of a part, answer to the placeholders of a proof.
use Rattle.std.specs.Prelude.{ℕ, Bool, false, List, Option, Some, None, slice_get, if◌then◌else◌}
use Rattle.vortex_base.specs.declared.aggregate.AggregateFnRef.{AggregateFnRef}
use Rattle.vortex_base.specs.declared.dtype.DType.{DType}
use Rattle.vortex_base.specs.declared.scalar_value.ScalarValue.{ScalarValue}
use Rattle.vortex_base.specs.Data.Scopes.{Named}
use Rattle.vortex_expr.specs.Trees.Tree.{column}
use Rattle.vortex_base.specs.Data.Types.{eq_ignore_nullability}
use Rattle.vortex_prune.specs.Part.{PartData, zone_of}
use Rattle.vortex_zone_map.specs.Zone.{Entries, ZoneData}
use Rattle.vortex_rewrite.specs.Rewriting.Proof.{Assignment}
use Rattle.vortex_zone_map.specs.StatValues.{stat_value}

-- there is a column there, and it has this type, nullability aside
abbrev pub declares : DType → Option Named → Bool
declares t None = false
declares t (Some c) = eq_ignore_nullability c.1 t

-- what the set of a column answers, if the column is there and has this type, nullability aside
abbrev pub column_value : AggregateFnRef → DType → Option Named → Option Entries → (n : ℕ) → Option ScalarValue
column_value f t (Some c) (Some es) n = if eq_ignore_nullability c.1 t then stat_value f es n else None
column_value f t c es n = None

-- the answers that the sets of a zone give, whose columns the scope names; of an input that is no column nothing is known
abbrev pub told_values : List Named → ZoneData → Assignment
told_values scope zone f (column c) = column_value f c.dtype (slice_get scope c.index) (slice_get zone.stats c.index) zone.rows
told_values scope zone f x = None

-- the answers that those of a part give
abbrev pub part_values : PartData → Assignment
part_values p = told_values p.chunk.scope (zone_of p)
