-- Worked rows of scans by ranges of a chunk, found by computation alone.
use Rattle.std.specs.Prelude.{◌≡◌, ℕ, true, false, List, [], ◌∷◌, ◌++◌, Option, Some, None, codes, pos, refl}
use Rattle.vortex_base.specs.Data.Columns.{ChunkData, ColumnData}
use Rattle.vortex_expr.specs.Trees.Tree.{Tree, Place, binary, column, is_null, literal}
use Rattle.vortex_base.specs.declared.dtype.DType.{DType}
use Rattle.vortex_base.specs.declared.dtype.DType.TheVariants as dtype
use Rattle.vortex_base.specs.declared.pvalue.PValue.TheVariants as number
use Rattle.vortex_base.specs.declared.scalar_value.ScalarValue.{ScalarValue}
use Rattle.vortex_base.specs.declared.scalar_value.ScalarValue.TheVariants as value
use Rattle.vortex_base.specs.declared.types.Nullability.TheVariants.{Nullable, NonNullable}
use Rattle.vortex_expr.specs.declared.scalar_fn.Operator.TheVariants.{Gt}
use Rattle.vortex_base.specs.declared.types.PType.TheVariants as ptype
use Rattle.vortex_prune.specs.Part.{PartData}
use Rattle.vortex_zone_map.specs.Zone.{Entries, ZoneData}
use Rattle.vortex_prune.specs.Scanning.RangeScans.{has_ranges, has_ranges_from, is_true_in, range_parts, range_rows, ranges_by, row_in_chunk, rows_in_chunk, selected_from, tested_by, tested_ranges}
use Rattle.vortex_prune.specs.Scanning.Selection.{full, satisfying}
use Rattle.vortex_zone_map.specs.ZoneMaps.{MapData, zone_map}
use Rattle.vortex_prune.specs.declared.scan.verdict.Verdict.TheVariants.{Skipped, Whole, Tested}
use Rattle.vortex_rewrite.specs.Rewriting.Falsifiers.{falsifier, node, reduce_balanced, satisfier}
use Rattle.vortex_stats.specs.Sets.Claims.{count_value}
use Rattle.vortex_stats.specs.declared.precision.Precision.TheVariants.{Exact}
use Rattle.vortex_stats.specs.declared.stat.Stat.TheVariants as stats

abbrev i64_type : DType
i64_type = dtype.Primitive ptype.I64 Nullable

abbrev num : ℕ → Option ScalarValue
num n = Some (value.Primitive (number.I64 (pos n)))

abbrev values_of : List (Option ScalarValue) → ColumnData
values_of vs = record { dtype = i64_type; values = vs; size = 8 }

-- the rows 1, 5, 10, null, 20, 30
abbrev six_rows : ChunkData
six_rows = record { scope = (codes "a", i64_type) ∷ []; columns = values_of (num 1 ∷ num 5 ∷ num 10 ∷ None ∷ num 20 ∷ num 30 ∷ []) ∷ [] }

abbrev a : Tree Place
a = column (record { index = 0; dtype = i64_type })

abbrev above : ℕ → Tree Place
above n = binary Gt a (literal (record { dtype = dtype.Primitive ptype.I64 NonNullable; value = num n }))

-- ---- the rows of a range

first_row : is_true_in (above 4) six_rows.columns 0 2 0 ≡ false
first_row = refl

second_row : is_true_in (above 4) six_rows.columns 0 2 1 ≡ true
second_row = refl

-- the row behind the cut is another's
behind_the_cut : is_true_in (above 9) six_rows.columns 2 2 0 ≡ true
behind_the_cut = refl

null_row : is_true_in (is_null a) six_rows.columns 2 2 1 ≡ true
null_row = refl

at_the_start : range_rows Tested (above 4) 7 six_rows 0 3 ≡ (7, 1) ∷ (7, 2) ∷ []
at_the_start = refl

in_the_middle : range_rows Tested (above 4) 7 six_rows 2 3 ≡ (7, 0) ∷ (7, 2) ∷ []
in_the_middle = refl

at_the_end : range_rows Tested (above 20) 7 six_rows 4 2 ≡ (7, 1) ∷ []
at_the_end = refl

of_no_row : range_rows Tested (above 0) 7 six_rows 2 0 ≡ []
of_no_row = refl

of_a_whole_one : range_rows Whole (above 25) 7 six_rows 2 3 ≡ (7, 0) ∷ (7, 1) ∷ (7, 2) ∷ []
of_a_whole_one = refl

of_a_skipped_one : range_rows Skipped (above 0) 7 six_rows 2 3 ≡ []
of_a_skipped_one = refl

-- ---- the ranges one behind the other

-- a range of no rows stands before the second
by_verdicts : ranges_by (above 4) six_rows 0 0 (Tested ∷ Tested ∷ Skipped ∷ Whole ∷ []) (3 ∷ 0 ∷ 1 ∷ 2 ∷ []) ≡ (0, 1) ∷ (0, 2) ∷ (3, 0) ∷ (3, 1) ∷ []
by_verdicts = refl

tested_rows_alone : tested_by (Tested ∷ Tested ∷ Skipped ∷ Whole ∷ []) (3 ∷ 0 ∷ 1 ∷ 2 ∷ []) ≡ 3
tested_rows_alone = refl

one_range : ranges_by (above 4) six_rows 0 0 (Tested ∷ []) (6 ∷ []) ≡ (0, 1) ∷ (0, 2) ∷ (0, 4) ∷ (0, 5) ∷ []
one_range = refl

no_range : ranges_by (above 4) six_rows 0 0 [] [] ≡ []
no_range = refl

-- ---- places in the chunk

in_the_first : row_in_chunk (3 ∷ 0 ∷ 1 ∷ 2 ∷ []) (0, 2) ≡ 2
in_the_first = refl

in_the_third : row_in_chunk (3 ∷ 0 ∷ 1 ∷ 2 ∷ []) (2, 0) ≡ 3
in_the_third = refl

in_the_last : row_in_chunk (3 ∷ 0 ∷ 1 ∷ 2 ∷ []) (3, 1) ≡ 5
in_the_last = refl

-- ---- zones of the chunk

abbrev zone : ℕ → Entries → ZoneData
zone n known = record { rows = n; stats = known ∷ [] }

abbrev between_ends : ℕ → ℕ → Entries
between_ends low high = (stats.Min, Exact (value.Primitive (number.I64 (pos low)))) ∷ (stats.Max, Exact (value.Primitive (number.I64 (pos high)))) ∷ []

abbrev nulls : ℕ → Entries
nulls n = (stats.NullCount, Exact (count_value n)) ∷ []

-- the first three rows with their bounds, no rows, the null, and the last two with bounds and no null
abbrev four_zones : List ZoneData
four_zones = zone 3 (between_ends 1 10) ∷ zone 0 [] ∷ zone 1 (nulls 1) ∷ zone 2 (between_ends 20 30 ++ nulls 0) ∷ []

abbrev their_map : MapData
their_map = zone_map six_rows.scope four_zones

they_are_ranges : has_ranges six_rows their_map ≡ true
they_are_ranges = refl

one_row_too_many : has_ranges six_rows (record { scope = six_rows.scope; rows = 3 ∷ 0 ∷ 1 ∷ 3 ∷ []; table = their_map.table }) ≡ false
one_row_too_many = refl

one_row_too_few : has_ranges six_rows (record { scope = six_rows.scope; rows = 3 ∷ 0 ∷ 2 ∷ []; table = their_map.table }) ≡ false
one_row_too_few = refl

-- counts past 64 bits don't come round to the chunk's
far_too_many : has_ranges six_rows (record { scope = six_rows.scope; rows = 18446744073709551615 ∷ 7 ∷ []; table = their_map.table }) ≡ false
far_too_many = refl

another_scope : has_ranges six_rows (record { scope = (codes "b", i64_type) ∷ []; rows = 6 ∷ []; table = their_map.table }) ≡ false
another_scope = refl

-- from a row on rows may be left behind the last zone, and none may be missing
abbrev last_two : List ZoneData
last_two = zone 1 (nulls 1) ∷ zone 2 (between_ends 20 30) ∷ []

abbrev map_of_two : MapData
map_of_two = zone_map six_rows.scope last_two

they_end_with_it : has_ranges_from six_rows 3 map_of_two ≡ true
they_end_with_it = refl

one_row_is_left : has_ranges_from six_rows 2 map_of_two ≡ true
one_row_is_left = refl

one_row_is_missing : has_ranges_from six_rows 4 map_of_two ≡ false
one_row_is_missing = refl

no_zone_behind_the_last_row : has_ranges_from six_rows 6 (zone_map six_rows.scope []) ≡ true
no_zone_behind_the_last_row = refl

no_zone_past_the_end : has_ranges_from six_rows 7 (zone_map six_rows.scope []) ≡ false
no_zone_past_the_end = refl

of_another_scope : has_ranges_from six_rows 3 (record { scope = (codes "b", i64_type) ∷ []; rows = 3 ∷ []; table = map_of_two.table }) ≡ false
of_another_scope = refl

-- the null is tested, the others are whole; their places are those among the two zones
abbrev above_ten_behind : List (ℕ × ℕ)
above_ten_behind = selected_from (falsifier [] (above 10)) (satisfier [] (above 10)) (above 10) six_rows 3 six_rows.scope last_two

from_the_null_on : above_ten_behind ≡ (1, 0) ∷ (1, 1) ∷ []
unfolding node reduce_balanced
from_the_null_on = refl

-- one row before, the zone of one row has the 10, which isn't above itself, and that of two the null and the 20
from_the_ten_on : selected_from (falsifier [] (above 9)) (satisfier [] (above 9)) (above 9) six_rows 2 six_rows.scope (zone 1 [] ∷ zone 2 [] ∷ []) ≡ (0, 0) ∷ (1, 1) ∷ []
unfolding node reduce_balanced
from_the_ten_on = refl

abbrev selects : Tree Place → List (ℕ × ℕ)
selects p = selected_from (falsifier [] p) (satisfier [] p) p six_rows 0 six_rows.scope four_zones

-- the first is tested, the third tested since nothing is known of its values, the last whole
above_four : selects (above 4) ≡ (0, 1) ∷ (0, 2) ∷ (3, 0) ∷ (3, 1) ∷ []
unfolding node reduce_balanced
above_four = refl

above_four_tested : tested_ranges (falsifier [] (above 4)) (satisfier [] (above 4)) six_rows.scope four_zones ≡ 4
unfolding node reduce_balanced
above_four_tested = refl

-- the same rows in the chunk
above_four_there : rows_in_chunk (3 ∷ 0 ∷ 1 ∷ 2 ∷ []) ((0, 1) ∷ (0, 2) ∷ (3, 0) ∷ (3, 1) ∷ []) ≡ satisfying (above 4) six_rows
above_four_there = refl

-- the first is skipped
above_ten_tested : tested_ranges (falsifier [] (above 10)) (satisfier [] (above 10)) six_rows.scope four_zones ≡ 1
unfolding node reduce_balanced
above_ten_tested = refl

-- ---- the ranges as parts

-- a part of the rows, whose columns declare another size than the chunk's
abbrev part : List (Option ScalarValue) → List Entries → PartData
part vs sets = record { chunk = record { scope = six_rows.scope; columns = record { dtype = i64_type; values = vs; size = 3 } ∷ [] }; stats = sets }

abbrev as_parts : List PartData
as_parts = part (num 1 ∷ num 5 ∷ num 10 ∷ []) ([] ∷ []) ∷ part [] ([] ∷ []) ∷ part (None ∷ []) ([] ∷ []) ∷ part (num 20 ∷ num 30 ∷ []) ([] ∷ []) ∷ []

their_rows : full (above 4) as_parts ≡ (0, 1) ∷ (0, 2) ∷ (3, 0) ∷ (3, 1) ∷ []
their_rows = refl

-- the parts that stand in zones
abbrev unsized : List (Option ScalarValue) → PartData
unsized vs = record { chunk = record { scope = six_rows.scope; columns = record { dtype = i64_type; values = vs; size = 0 } ∷ [] }; stats = [] ∷ [] }

the_parts : range_parts six_rows 0 (record { rows = 2; stats = [] ∷ [] } ∷ record { rows = 0; stats = [] ∷ [] } ∷ record { rows = 4; stats = [] ∷ [] } ∷ []) ≡
    unsized (num 1 ∷ num 5 ∷ []) ∷ unsized [] ∷ unsized (num 10 ∷ None ∷ num 20 ∷ num 30 ∷ []) ∷ []
the_parts = refl

parts_behind : range_parts six_rows 2 (record { rows = 1; stats = [] ∷ [] } ∷ record { rows = 2; stats = [] ∷ [] } ∷ []) ≡ unsized (num 10 ∷ []) ∷ unsized (None ∷ num 20 ∷ []) ∷ []
parts_behind = refl
