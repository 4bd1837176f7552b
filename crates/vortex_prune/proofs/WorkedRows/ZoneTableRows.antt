-- Worked rows of tables of zones and their binder, found by computation alone.
use Rattle.std.specs.Prelude.{◌≡◌, ℕ, true, false, List, [], ◌∷◌, Option, Some, None, pos, codes, length, map, refl, slice_get}
use Rattle.vortex_base.specs.Data.Columns.{ColumnData, row_of}
use Rattle.vortex_base.specs.Data.Scopes.{Named}
use Rattle.vortex_expr.specs.Trees.Tree.{Tree, Place, binary, column, is_null, stat}
use Rattle.vortex_base.specs.declared.aggregate.AggregateFnRef.TheVariants.{Max, Min, NullCount, AllNull, AllNonNull, MinMax}
use Rattle.vortex_base.specs.declared.dtype.DType.{DType}
use Rattle.vortex_base.specs.declared.dtype.DType.TheVariants as dtype
use Rattle.vortex_base.specs.declared.types.Nullability.TheVariants.{Nullable, NonNullable}
use Rattle.vortex_expr.specs.declared.scalar_fn.Operator.TheVariants.{Gt}
use Rattle.vortex_base.specs.declared.types.PType.TheVariants as ptype
use Rattle.vortex_base.specs.declared.pvalue.PValue.TheVariants as number
use Rattle.vortex_base.specs.declared.scalar_value.ScalarValue.{ScalarValue}
use Rattle.vortex_base.specs.declared.scalar_value.ScalarValue.TheVariants as value
use Rattle.vortex_stats.specs.Sets.Claims.{count_value}
use Rattle.vortex_stats.specs.declared.precision.Precision.TheVariants.{Exact, Inexact}
use Rattle.vortex_stats.specs.declared.stat.Stat.TheVariants as stats
use Rattle.vortex_zone_map.specs.GivenTables.{is_table, map_with}
use Rattle.vortex_prune.specs.Part.{PartData}
use Rattle.vortex_zone_map.specs.Zone.{Entries}
use Rattle.vortex_prune.specs.Scanning.ZoneScans.{is_left_open}
use Rattle.vortex_prune.specs.Zones.{ZonesData, is_zone_row, zone_answer, zones_of}
use Rattle.vortex_zone_map.specs.ZoneMaps.{heads, starts_from, zone_columns, zone_place, zone_table}

abbrev i64_type : DType
i64_type = dtype.Primitive ptype.I64 Nullable

abbrev count_type : DType
count_type = dtype.Primitive ptype.U64 Nullable

abbrev bool_type : DType
bool_type = dtype.Bool Nullable

abbrev num : ℕ → Option ScalarValue
num n = Some (value.Primitive (number.I64 (pos n)))

abbrev bit : Option ScalarValue
bit = Some (value.Bool true)

-- a part of one column of this name and type
abbrev part : List ℕ → DType → List (Option ScalarValue) → Entries → PartData
part name t values es = record {
  chunk = record { scope = (name, t) ∷ []; columns = record { dtype = t; values = values; size = 0 } ∷ [] };
  stats = es ∷ [];
}

abbrev values : DType → List (Option ScalarValue) → ColumnData
values t vs = record { dtype = t; values = vs; size = 0 }

-- ---- numbers

-- the rows 1, 5, 10 with exact bounds, and 8, null, 20 of which the greatest is at most 25
abbrev first_run : ZonesData
first_run = record {
  scope = (codes "a", i64_type) ∷ [];
  parts =
      part (codes "a") i64_type (num 1 ∷ num 5 ∷ num 10 ∷ []) ((stats.Min, Exact (value.Primitive (number.I64 (pos 1)))) ∷ (stats.Max, Exact (value.Primitive (number.I64 (pos 10)))) ∷ []) ∷
      part (codes "a") i64_type (num 8 ∷ None ∷ num 20 ∷ []) ((stats.Min, Exact (value.Primitive (number.I64 (pos 8)))) ∷ (stats.Max, Inexact (value.Primitive (number.I64 (pos 25)))) ∷ []) ∷ [];
}

first_table : zone_table first_run.scope (zones_of first_run.parts) ≡ record {
  scope =
      (codes "a#0", i64_type) ∷ (codes "a#1", i64_type) ∷ (codes "a#2", i64_type) ∷ (codes "a#3", count_type) ∷ (codes "a#4", count_type) ∷
      (codes "a#5", bool_type) ∷ (codes "a#6", bool_type) ∷ [];
  columns =
      values i64_type (num 10 ∷ num 25 ∷ []) ∷ values i64_type (num 1 ∷ num 8 ∷ []) ∷ values i64_type (None ∷ None ∷ []) ∷ values count_type (None ∷ None ∷ []) ∷
      values count_type (None ∷ None ∷ []) ∷ values bool_type (None ∷ None ∷ []) ∷ values bool_type (None ∷ None ∷ []) ∷ [];
}
first_table = refl

-- the cells of a row
first_cells : map (λ c. c.value) (row_of 0 (zone_columns first_run.scope (zones_of first_run.parts))) ≡ num 10 ∷ num 1 ∷ None ∷ None ∷ None ∷ None ∷ None ∷ []
first_cells = refl

second_cells : map (λ c. c.value) (row_of 1 (zone_columns first_run.scope (zones_of first_run.parts))) ≡ num 25 ∷ num 8 ∷ None ∷ None ∷ None ∷ None ∷ None ∷ []
second_cells = refl

first_row_typed : is_zone_row first_run.scope (row_of 0 (zone_columns first_run.scope (zones_of first_run.parts))) ≡ true
first_row_typed = refl

other_row : is_zone_row first_run.scope [] ≡ false
other_row = refl

-- ---- nulls alone, counted, and a part of no rows

abbrev nulls : ZonesData
nulls = record {
  scope = (codes "n", dtype.Null) ∷ [];
  parts =
      part (codes "n") dtype.Null (None ∷ None ∷ []) ((stats.NullCount, Exact (count_value 2)) ∷ []) ∷
      part (codes "n") dtype.Null [] ((stats.NullCount, Exact (count_value 0)) ∷ []) ∷ [];
}

null_table : zone_table nulls.scope (zones_of nulls.parts) ≡ record {
  scope = (codes "n#3", count_type) ∷ (codes "n#4", count_type) ∷ (codes "n#5", bool_type) ∷ (codes "n#6", bool_type) ∷ [];
  columns =
      values count_type (Some (count_value 2) ∷ Some (count_value 0) ∷ []) ∷ values count_type (None ∷ None ∷ []) ∷
      values bool_type (bit ∷ bit ∷ []) ∷ values bool_type (Some (value.Bool false) ∷ bit ∷ []) ∷ [];
}
null_table = refl

-- ---- no parts: the columns stay, and there is no row

without_parts : zone_table ((codes "n", dtype.Null) ∷ []) [] ≡ record {
  scope = (codes "n#3", count_type) ∷ (codes "n#4", count_type) ∷ (codes "n#5", bool_type) ∷ (codes "n#6", bool_type) ∷ [];
  columns = values count_type [] ∷ values count_type [] ∷ values bool_type [] ∷ values bool_type [] ∷ [];
}
without_parts = refl

-- ---- columns that are handed in, of two zones of a column of nulls

abbrev ns : List Named
ns = (codes "n", dtype.Null) ∷ []

-- the counts of nulls, and what they tell of all values
abbrev counts : ColumnData
counts = values count_type (Some (count_value 2) ∷ Some (count_value 0) ∷ [])

abbrev sizes : ColumnData
sizes = values count_type (None ∷ None ∷ [])

abbrev truths : ColumnData
truths = values bool_type (bit ∷ None ∷ [])

four_stand : is_table 2 ns (counts ∷ sizes ∷ truths ∷ truths ∷ []) ≡ true
four_stand = refl

three_do_not : is_table 2 ns (counts ∷ sizes ∷ truths ∷ []) ≡ false
three_do_not = refl

five_do_not : is_table 2 ns (counts ∷ sizes ∷ truths ∷ truths ∷ truths ∷ []) ≡ false
five_do_not = refl

of_another_type : is_table 2 ns (counts ∷ truths ∷ truths ∷ truths ∷ []) ≡ false
of_another_type = refl

too_short : is_table 3 ns (counts ∷ sizes ∷ truths ∷ truths ∷ []) ≡ false
too_short = refl

last_too_short : is_table 2 ns (counts ∷ sizes ∷ truths ∷ values bool_type (bit ∷ []) ∷ []) ≡ false
last_too_short = refl

with_a_size : is_table 2 ns (counts ∷ record { dtype = count_type; values = None ∷ None ∷ []; size = 8 } ∷ truths ∷ truths ∷ []) ≡ false
with_a_size = refl

given_map : map_with ns (5 ∷ 7 ∷ []) (counts ∷ sizes ∷ truths ∷ truths ∷ []) ≡ record {
  scope = ns;
  rows = 5 ∷ 7 ∷ [];
  table = record {
    scope = (codes "n#3", count_type) ∷ (codes "n#4", count_type) ∷ (codes "n#5", bool_type) ∷ (codes "n#6", bool_type) ∷ [];
    columns = counts ∷ sizes ∷ truths ∷ truths ∷ [];
  };
}
given_map = refl

-- ---- the binder over two columns, of nulls and of numbers

abbrev two : List Named
two = (codes "n", dtype.Null) ∷ (codes "a", i64_type) ∷ []

fifth_head : slice_get (heads two) 4 ≡ Some (record { source = 1; aggregate = Max; name = codes "a#0"; dtype = i64_type })
fifth_head = refl

last_head : slice_get (heads two) 10 ≡ Some (record { source = 1; aggregate = AllNonNull; name = codes "a#6"; dtype = bool_type })
last_head = refl

eleven_heads : length (heads two) ≡ 11
eleven_heads = refl

two_start : starts_from 0 two ≡ 0 ∷ 4 ∷ []
two_start = refl

greatest : zone_place two 1 Max i64_type ≡ Some 4
greatest = refl

greatest_of_plain : zone_place two 1 Max (dtype.Primitive ptype.I64 NonNullable) ≡ Some 4
greatest_of_plain = refl

none_null : zone_place two 1 AllNonNull i64_type ≡ Some 10
none_null = refl

null_count : zone_place two 0 NullCount dtype.Null ≡ Some 0
null_count = refl

no_greatest_null : zone_place two 0 Max dtype.Null ≡ None
no_greatest_null = refl

other_type : zone_place two 1 Max (dtype.Primitive ptype.I32 Nullable) ≡ None
other_type = refl

no_such_column : zone_place two 2 Max i64_type ≡ None
no_such_column = refl

no_pair : zone_place two 1 MinMax i64_type ≡ None
no_pair = refl

abbrev a : Tree Place
a = column (record { index = 1; dtype = i64_type })

a_reference : zone_answer two Min a i64_type ≡ Some (column (record { index = 5; dtype = i64_type }))
a_reference = refl

no_column : zone_answer two AllNull (is_null a) bool_type ≡ None
no_column = refl

-- ---- proofs that are left open: with a column outside their placeholders, and a part

column_left : is_left_open (Some (binary Gt (stat Max a) a)) first_run.parts ≡ true
column_left = refl

no_column_left : is_left_open (Some (binary Gt (stat Max a) (stat Min a))) first_run.parts ≡ false
no_column_left = refl

no_part_left : is_left_open {X = PartData} (Some a) [] ≡ false
no_part_left = refl
