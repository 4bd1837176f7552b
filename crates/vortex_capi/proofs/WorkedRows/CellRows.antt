-- Worked rows: the cells of maps' tables, filled from a caller's arrays.
use Rattle.std.proofs.Common.{◌≡◌, ℕ, List, [], ◌∷◌, None, Some, Ok, Err, true, false, Bor, codes, refl}
use Rattle.vortex_base.specs.Data.Scopes.{Named}
use Rattle.vortex_base.specs.declared.aggregate.AggregateFnRef.TheVariants as aggregate
use Rattle.vortex_base.specs.declared.dtype.DType.TheVariants as dtype
use Rattle.vortex_base.specs.declared.pvalue.PValue.TheVariants as number
use Rattle.vortex_base.specs.declared.scalar_value.ScalarValue.{ScalarValue}
use Rattle.vortex_base.specs.declared.scalar_value.ScalarValue.TheVariants as value
use Rattle.vortex_base.specs.declared.types.Nullability.TheVariants.{Nullable}
use Rattle.vortex_base.specs.declared.types.PType.TheVariants as ptype
use Rattle.vortex_zone_map.specs.ZoneMaps.{head}
use Rattle.vortex_stats.specs.declared.precision.Precision.TheVariants.{Exact, Inexact, Absent}
use Rattle.vortex_stats.specs.declared.stat.Stat.{Stat}
use Rattle.vortex_stats.specs.declared.stat.Stat.TheVariants as stat
use Rattle.vortex_capi.specs.declared.status.Status.TheVariants.{BadKnown, BadLength}
use Rattle.vortex_capi.specs.declared.table.Source.{Source}
use Rattle.vortex_capi.specs.MapCells.{IsCounting, is_of, last_of, told_cell, told_cells, value_by, zones_from}
use Rattle.vortex_capi.specs.Statuses.{at_entry, in_column}

abbrev lent : List ℕ → Bor (List ℕ)
lent xs = record { ref_ptr = (0, 0); now = xs }

-- a statistic of a column of U8: how it is known in each zone, and the values
abbrev source : ℕ → Stat → List ℕ → List ℕ → Source
source c s known values = record {
  statistic = record { column = c; stat = 0; start = 0; known = lent known; values = lent values; ends = lent [] };
  dtype = dtype.Primitive ptype.U8 Nullable;
  stat = s;
}

abbrev byte : ℕ → ScalarValue
byte n = value.Primitive (number.U8 n)

abbrev first : Source
first = source 0 stat.Max (1 ∷ 2 ∷ 0 ∷ []) (5 ∷ 6 ∷ 7 ∷ [])

abbrev second : Source
second = source 1 stat.Max (1 ∷ 1 ∷ 1 ∷ []) (8 ∷ 9 ∷ 10 ∷ [])

abbrev least : Source
least = source 0 stat.Min (1 ∷ 1 ∷ 3 ∷ []) (1 ∷ 2 ∷ 3 ∷ [])

abbrev later : Source
later = source 0 stat.Max (0 ∷ 1 ∷ 1 ∷ []) (11 ∷ 12 ∷ 13 ∷ [])

-- ---- the statistic that counts: of this column, this one, and the last

own : is_of 0 stat.Max first ≡ true
own = refl

of_another_column : is_of 1 stat.Max first ≡ false
of_another_column = refl

another : is_of 0 stat.Min first ≡ false
another = refl

last_counts : last_of 0 stat.Max (first ∷ second ∷ least ∷ later ∷ []) 4 ≡ Some later
last_counts = refl

among_the_first : last_of 0 stat.Max (first ∷ second ∷ least ∷ later ∷ []) 3 ≡ Some first
among_the_first = refl

-- where it stands for a head, and past all statistics where there is none

stands_last : IsCounting (first ∷ second ∷ least ∷ later ∷ []) (head 0 (codes "a", dtype.Primitive ptype.U8 Nullable) aggregate.Max) 3
stands_last = record { stat = stat.Max; reads = refl; last = refl }

stands_nowhere : IsCounting (first ∷ second ∷ least ∷ later ∷ []) (head 1 (codes "b", dtype.Primitive ptype.U8 Nullable) aggregate.AllNull) 4
stands_nowhere = record { stat = stat.NullCount; reads = refl; last = refl }

of_its_column : last_of 1 stat.Max (first ∷ second ∷ least ∷ later ∷ []) 4 ≡ Some second
of_its_column = refl

none_counts : last_of 1 stat.Min (first ∷ second ∷ least ∷ later ∷ []) 4 ≡ None
none_counts = refl

nothing_known : value_by None 0 ≡ Ok Absent
nothing_known = refl

exactly_known : value_by (Some first) 0 ≡ Ok (Exact (byte 5))
exactly_known = refl

known_as_a_bound : value_by (Some first) 1 ≡ Ok (Inexact (byte 6))
known_as_a_bound = refl

-- ---- cells

cell_of_a_bound : told_cell aggregate.Max (Some first) (3 ∷ 3 ∷ 3 ∷ []) 1 ≡ Ok (Some (byte 6))
cell_of_a_bound = refl

cell_of_an_absent_one : told_cell aggregate.Max (Some first) (3 ∷ 3 ∷ 3 ∷ []) 2 ≡ Ok None
cell_of_an_absent_one = refl

cell_refused : told_cell aggregate.Min (Some least) (3 ∷ 3 ∷ 3 ∷ []) 2 ≡ Err BadKnown
cell_refused = refl

cell_without_a_code : told_cell aggregate.Min (Some least) (3 ∷ 3 ∷ 3 ∷ []) 3 ≡ Err BadLength
cell_without_a_code = refl

-- from the second zone on
two_cells : told_cells aggregate.Max (Some first) (3 ∷ 3 ∷ 3 ∷ []) 1 2 ≡ Ok (Some (byte 6) ∷ None ∷ [])
two_cells = refl

second_refused : told_cells aggregate.Min (Some least) (3 ∷ 3 ∷ 3 ∷ []) 1 2 ≡ Err (at_entry BadKnown 1)
second_refused = refl

-- ---- zones from a place on

abbrev scope : List Named
scope = (97 ∷ [], dtype.Primitive ptype.U8 Nullable) ∷ []

last_two : zones_from scope (first ∷ []) (3 ∷ 4 ∷ 5 ∷ []) 1 2
    ≡ Ok (record { rows = 4; stats = ((stat.Max, Inexact (byte 6)) ∷ []) ∷ [] } ∷ record { rows = 5; stats = ((stat.Max, Absent) ∷ []) ∷ [] } ∷ [])
last_two = refl

third_refused : zones_from scope (least ∷ []) (3 ∷ 4 ∷ 5 ∷ []) 1 2 ≡ Err (in_column 2 0 BadKnown 0)
third_refused = refl
