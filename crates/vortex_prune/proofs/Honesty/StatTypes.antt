-- What the statistics of a part answer to placeholders may stand under the placeholders' types.
use Rattle.std.proofs.Common.{◌≡◌, ℕ, Bool, true, false, Option, Some, None, refl, ◌∙◌}
use Rattle.std.specs.Prelude.{Ok, slice_get, if◌then◌else◌}
use Rattle.vortex_base.specs.Data.Columns.{ColumnData}
use Rattle.vortex_base.specs.Data.Scalars.{is_optional_value}
use Rattle.vortex_expr.specs.Trees.Tree.{Tree, Place, column, stat}
use Rattle.vortex_base.specs.Data.Types.{as_nullable, dtype_eq_is_exact, eq_ignore_nullability}
use Rattle.vortex_base.specs.Data.States.{state_dtype}
use Rattle.vortex_expr.specs.Meanings.Typing.{stat_type, type_of}
use Rattle.vortex_base.specs.declared.aggregate.AggregateFnRef.{AggregateFnRef}
use Rattle.vortex_base.specs.declared.dtype.DType.{DType}
use Rattle.vortex_rewrite.proofs.NullErasure.{placeholder_null, typed_null}
use Rattle.vortex_prune.proofs.Honesty.PartLemmas.{part_set_fits}
use Rattle.vortex_zone_map.proofs.StatFits.{stat_value-fits}
use Rattle.vortex_prune.specs.Part.{IsPart, PartData}
use Rattle.vortex_zone_map.specs.Zone.{Entries}
use Rattle.vortex_prune.proofs.Honesty.OwnValues.{column_told, own_values}
use Rattle.vortex_zone_map.specs.StatValues.{stat_value}
use Rattle.vortex_rewrite.specs.StateTypes.{same_stat_type}

-- a column of the type, nullability aside, has placeholders of the same type
same_placeholder : (f : AggregateFnRef) (s t u : DType) → eq_ignore_nullability s t ≡ true → stat_type f t ≡ Ok u → stat_type f s ≡ Ok u
same_placeholder f s t u h e = same_stat_type f s t ((dtype_eq_is_exact (as_nullable s) (as_nullable t)).0 h) ∙ e

module _ (p : PartData) (part : IsPart p) (f : AggregateFnRef) where
  column_fits : (c : Place) (t : DType) (o : Option ColumnData) (q : Option Entries) (n : ℕ) → stat_type f c.dtype ≡ Ok t
      → slice_get p.chunk.columns c.index ≡ o → slice_get p.stats c.index ≡ q → is_optional_value (column_told f c.dtype o q n) t ≡ true
  column_fits c t None q n h there set = placeholder_null (state_dtype f c.dtype) t h
  column_fits c t (Some d) None n h there set = placeholder_null (state_dtype f c.dtype) t h
  column_fits c t (Some d) (Some es) n h there set = by (eq_ignore_nullability d.dtype c.dtype) refl
    where
      by : (b : Bool) → eq_ignore_nullability d.dtype c.dtype ≡ b → is_optional_value (if b then stat_value f es n else None) t ≡ true
      by true e = stat_value-fits f es n d.dtype t (part_set_fits p c.index d es part there set) (same_placeholder f d.dtype c.dtype t e h)
      by false e = placeholder_null (state_dtype f c.dtype) t h

  pub part_type : (x : Tree Place) (t : DType) → type_of (stat f x) ≡ Ok t → is_optional_value (own_values p f x) t ≡ true
  part_type (column c) t h = column_fits c t (slice_get p.chunk.columns c.index) (slice_get p.stats c.index) _ h refl refl
  part_type x t h = typed_null f (type_of x) t h
