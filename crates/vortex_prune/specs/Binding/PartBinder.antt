-- What the statistics of a zone, and so of a part, answer to placeholders, as literals.
use Rattle.std.specs.Prelude.{◌≡◌, ℕ, List, Option, Some, None, Result, Ok, Err, slice_get, if◌then◌else◌}
use Rattle.vortex_base.specs.declared.aggregate.AggregateFnRef.{AggregateFnRef}
use Rattle.vortex_base.specs.declared.dtype.DType.{DType}
use Rattle.vortex_base.specs.declared.error.BaseError.{BaseError}
use Rattle.vortex_base.specs.declared.scalar_value.ScalarValue.{ScalarValue}
use Rattle.vortex_base.specs.Data.Scopes.{Named}
use Rattle.vortex_base.specs.Data.Scalars.{null_of}
use Rattle.vortex_expr.specs.Trees.Tree.{Tree, Place, column, literal}
use Rattle.vortex_base.specs.Data.Types.{as_nullable}
use Rattle.vortex_expr.specs.Meanings.Typing.{stat_type}
use Rattle.vortex_prune.specs.Binding.Binders.{BinderAnswer}
use Rattle.vortex_prune.specs.Part.{PartData, zone_of}
use Rattle.vortex_zone_map.specs.Zone.{Entries, ZoneData}
use Rattle.vortex_prune.specs.Binding.PartAnswers.{declares}
use Rattle.vortex_zone_map.specs.StatValues.{stat_value}

-- the literal of a value, where the aggregate supports the type
abbrev pub literal_if : Result DType BaseError → Option ScalarValue → Option (Tree Place)
literal_if (Ok t) v = Some (literal (record { dtype = t; value = v }))
literal_if (Err f) v = None

-- what the set of a column tells of it, if it is there and the aggregate supports it
abbrev pub column_literal : AggregateFnRef → Option Named → Option Entries → (n : ℕ) → Option (Tree Place)
column_literal f (Some c) (Some es) n = literal_if (stat_type f c.1) (stat_value f es n)
column_literal f c es n = None

-- the answers that the sets of a zone give to columns of their types, nullability aside; of an input that is no column nothing is known
abbrev pub told_answer : List Named → ZoneData → BinderAnswer
told_answer scope zone f (column c) t = if declares c.dtype (slice_get scope c.index) then column_literal f (slice_get scope c.index) (slice_get zone.stats c.index) zone.rows else None
told_answer scope zone f x t = None

-- those that the sets of a part give
abbrev pub part_answer : PartData → BinderAnswer
part_answer p = told_answer p.chunk.scope (zone_of p)

-- null of the type, made nullable
abbrev pub IsNullOf : DType → Tree Place → Type 0
IsNullOf t r = r ≡ literal (null_of (as_nullable t))
