-- What the statistics of a part answer, by the types of its columns themselves.
use Rattle.std.proofs.Common.{◌≡◌, ℕ, zero, suc, true, List, [], ◌∷◌, Option, Some, None, refl, sym, ap}
use Rattle.std.specs.Prelude.{if◌then◌else◌, slice_get}
use Rattle.vortex_base.specs.Data.Columns.{ColumnData, has_types, row_count as rows_of}
use Rattle.vortex_base.specs.Data.Exact.{both_true}
use Rattle.vortex_base.specs.Data.Scopes.{Named}
use Rattle.vortex_base.specs.Data.Types.{dtype_eq_is_exact, eq_ignore_nullability}
use Rattle.vortex_expr.specs.Trees.Tree.{Place, Tree, column}
use Rattle.vortex_base.specs.declared.aggregate.AggregateFnRef.{AggregateFnRef}
use Rattle.vortex_base.specs.declared.dtype.DType.{DType}
use Rattle.vortex_base.specs.declared.scalar_value.ScalarValue.{ScalarValue}
use Rattle.vortex_rewrite.specs.Rewriting.Proof.{Assignment}
use Rattle.vortex_prune.proofs.Honesty.PartLemmas.{types_of}
use Rattle.vortex_prune.specs.Binding.PartAnswers.{column_value, part_values}
use Rattle.vortex_zone_map.specs.StatValues.{stat_value}
use Rattle.vortex_prune.specs.Part.{IsPart, PartData}
use Rattle.vortex_zone_map.specs.Zone.{Entries}

abbrev pub column_told : AggregateFnRef → DType → Option ColumnData → Option Entries → (n : ℕ) → Option ScalarValue
column_told f t (Some c) (Some es) n = if eq_ignore_nullability c.dtype t then stat_value f es n else None
column_told f t c es n = None

abbrev pub own_values : PartData → Assignment
own_values p f (column c) = column_told f c.dtype (slice_get p.chunk.columns c.index) (slice_get p.stats c.index) (rows_of p.chunk.columns)
own_values p f x = None

module _ (f : AggregateFnRef) (t : DType) (n : ℕ) where
  one_same : (c : Named) (d : ColumnData) (o : Option Entries) → c.1 ≡ d.dtype → column_told f t (Some d) o n ≡ column_value f t (Some c) o n
  one_same c d None same = refl
  one_same c d (Some es) same = ap (λ s. if eq_ignore_nullability s t then stat_value f es n else None) (sym same)

  told_same : (cs : List Named) (ds : List ColumnData) (i : ℕ) (o : Option Entries) → has_types cs ds ≡ true → column_told f t (slice_get ds i) o n ≡ column_value f t (slice_get cs i) o n
  told_same [] [] i o h = refl
  told_same [] (d ∷ ds) i o h = cc
  told_same (c ∷ cs) [] i o h = cc
  told_same (c ∷ cs) (d ∷ ds) zero o h = one_same c d o ((dtype_eq_is_exact c.1 d.dtype).0 (both_true _ _ h).0)
  told_same (c ∷ cs) (d ∷ ds) (suc i) o h = told_same cs ds i o (both_true _ _ h).1

value_same : (p : PartData) → IsPart p → (f : AggregateFnRef) (x : Tree Place) → own_values p f x ≡ part_values p f x
value_same p h f (column c) = told_same f c.dtype (rows_of p.chunk.columns) p.chunk.scope p.chunk.columns c.index (slice_get p.stats c.index) (types_of p.chunk h.0)
value_same p h f _ = refl

-- of a part they are the same
pub own_is_part : (p : PartData) → IsPart p → own_values p ≡ part_values p
own_is_part p h = λ i f x. value_same p h f x i
