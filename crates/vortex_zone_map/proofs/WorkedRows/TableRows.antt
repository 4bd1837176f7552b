-- Which columns make a table of zones, and which refusals say that they don't.
use Rattle.std.proofs.Common.{◌≡◌, ℕ, true, false, List, [], ◌∷◌, inl, inr, refl}
use Rattle.std.specs.Prelude.{Option, None, alloc_error}
use Rattle.vortex_base.specs.Data.Columns.{ColumnData}
use Rattle.vortex_base.specs.declared.aggregate.AggregateFnRef.TheVariants as aggregate
use Rattle.vortex_base.specs.declared.dtype.DType.{DType}
use Rattle.vortex_base.specs.declared.dtype.DType.TheVariants as dtype
use Rattle.vortex_base.specs.declared.scalar_value.ScalarValue.{ScalarValue}
use Rattle.vortex_base.specs.declared.types.Nullability.TheVariants.{Nullable}
use Rattle.vortex_stats.specs.declared.error.StatsError.TheVariants as fault
use Rattle.vortex_zone_map.specs.GivenTables.{IsNoTable, all_stand, stands_under}
use Rattle.vortex_zone_map.specs.ZoneMaps.{StatColumn}

abbrev truths : StatColumn
truths = record { source = 0; aggregate = aggregate.AllNull; name = []; dtype = dtype.Bool Nullable }

abbrev column : DType → List (Option ScalarValue) → ℕ → ColumnData
column t vs n = record { dtype = t; values = vs; size = n }

abbrev two : List (Option ScalarValue)
two = None ∷ None ∷ []

two_zones_stand : stands_under 2 truths (column (dtype.Bool Nullable) two 0) ≡ true
two_zones_stand = refl

another_type : stands_under 2 truths (column (dtype.Utf8 Nullable) two 0) ≡ false
another_type = refl

a_zone_too_few : stands_under 3 truths (column (dtype.Bool Nullable) two 0) ≡ false
a_zone_too_few = refl

a_declared_size : stands_under 2 truths (column (dtype.Bool Nullable) two 1) ≡ false
a_declared_size = refl

in_order : all_stand 2 (truths ∷ record truths { dtype = dtype.Utf8 Nullable } ∷ []) (column (dtype.Bool Nullable) two 0 ∷ column (dtype.Utf8 Nullable) two 0 ∷ []) ≡ true
in_order = refl

turned_round : all_stand 2 (truths ∷ record truths { dtype = dtype.Utf8 Nullable } ∷ []) (column (dtype.Utf8 Nullable) two 0 ∷ column (dtype.Bool Nullable) two 0 ∷ []) ≡ false
turned_round = refl

a_column_too_few : all_stand 2 (truths ∷ []) [] ≡ false
a_column_too_few = refl

-- memory may be refused whichever columns there are
memory_is_refused : IsNoTable 0 [] [] (fault.Memory alloc_error)
memory_is_refused = inl refl

-- columns that make a table are no mismatch
table_is_no_mismatch : IsNoTable 0 [] [] fault.Mismatch → ⊥
table_is_no_mismatch (inl h) = cc
table_is_no_mismatch (inr h) = let e : ◌≡◌ true false = h.1 in cc

-- a column too many is one
column_too_many : IsNoTable 2 [] (column (dtype.Bool Nullable) two 0 ∷ []) fault.Mismatch
column_too_many = inr (refl, refl)

-- and is told as nothing else
nothing_else : IsNoTable 2 [] (column (dtype.Bool Nullable) two 0 ∷ []) fault.TooLarge → ⊥
nothing_else (inl h) = cc
nothing_else (inr h) = let e = h.0 in cc
