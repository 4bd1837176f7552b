-- Worked rows of what clauses take for given: parts and zones that fit, true sets, maps and tables of zones, ranges, and binders that are faithful, honest and by statistics.
use Rattle.std.specs.Prelude.{◌≡◌, ◌==◌, ◌+◌, ℕ, Bool, true, false, List, [], ◌∷◌, Option, Some, None, length, map, refl, slice_get}
use Rattle.std.proofs.Common.{ap, arith, sym}
use Rattle.vortex_base.specs.declared.aggregate.AggregateFnRef.TheVariants as aggregate
use Rattle.vortex_base.specs.declared.scalar_value.ScalarValue.{ScalarValue}
use Rattle.vortex_base.specs.Data.Columns.{ColumnData, row_of}
use Rattle.vortex_base.specs.Data.Scalars.{Constant}
use Rattle.vortex_prune.proofs.WorkedRows.Witnesses.Binders.{five_is_above}
use Rattle.vortex_prune.proofs.WorkedRows.Witnesses.Parts.{a, below_two, chunk_of, high, high_is_true, is_map, low, low_is_true, mixed, part, their_map, values_of, zones}
use Rattle.vortex_zone_map.proofs.WorkedRows.Witnesses.{known, num, scope}
use Rattle.vortex_prune.proofs.WorkedRows.Witnesses.Pruning.{shut}
use Rattle.vortex_prune.proofs.WorkedRows.Witnesses.Ranges.{eight_rows, six_rows}
use Rattle.vortex_prune.specs.Binding.PartAnswers.{part_values}
use Rattle.vortex_zone_map.specs.GivenTables.{IsTableOf}
use Rattle.vortex_prune.specs.Part.{AreParts, AreTrueSets, IsPart, PartData, zone_of}
use Rattle.vortex_zone_map.specs.Zone.{AreZonesOf, Entries, ZoneData}
use Rattle.vortex_prune.specs.Scanning.RangeScans.{AreRangesFrom, IsRange}
use Rattle.vortex_prune.specs.Scanning.Selection.{AreByStatistics, AreFaithful, AreHonest}
use Rattle.vortex_zone_map.specs.ZoneMaps.{IsMapOf, MapData, zone_columns, zone_map}
use Rattle.vortex_rewrite.specs.Rewriting.Proof.{Assignment}
use Rattle.vortex_stats.specs.Sets.Claims.{count_value}
use Rattle.vortex_stats.specs.declared.precision.Precision.TheVariants.{Exact}
use Rattle.vortex_stats.specs.declared.stat.Stat.TheVariants.{Max, Min, NullCount}

-- ---- parts: one set a column, and each fits it

abbrev with_sets : List Entries → PartData
with_sets sets = record { chunk = low.chunk; stats = sets }

a_set_too_many : IsPart (with_sets ([] ∷ [] ∷ [])) → ⊥
a_set_too_many h = shut h.1

-- the greatest of some numbers is none of another type
another_type : IsPart (with_sets (((Max, Exact (count_value 3)) ∷ []) ∷ [])) → ⊥
another_type h = shut h.1

nothing_known : IsPart (with_sets ([] ∷ []))
nothing_known = (refl, refl)

last_is_no_part : AreParts (low ∷ with_sets [] ∷ []) → ⊥
last_is_no_part h = shut (h 1 (with_sets []) refl).1

first_is_no_part : AreParts (with_sets [] ∷ low ∷ []) → ⊥
first_is_no_part h = shut (h 0 (with_sets []) refl).1

-- ---- zones of a scope

abbrev without_set : ZoneData
without_set = record { rows = 2; stats = [] }

last_does_not_fit : AreZonesOf scope (zone_of low ∷ without_set ∷ []) → ⊥
last_does_not_fit h = shut (h 1 without_set refl)

first_does_not_fit : AreZonesOf scope (without_set ∷ zone_of low ∷ []) → ⊥
first_does_not_fit h = shut (h 0 without_set refl)

-- without columns no set is wanted
of_no_columns : AreZonesOf [] (zone_of low ∷ []) → ⊥
of_no_columns h = shut (h 0 (zone_of low) refl)

-- ---- true sets: one for each column, and each is true of its own

abbrev pub of_low : Entries
of_low = known 3 3 3 1

abbrev pub of_high : Entries
of_high = known 20 30 50 0

abbrev pub low_values : ColumnData
low_values = values_of (Some (num 3) ∷ None ∷ [])

abbrev pub high_values : ColumnData
high_values = values_of (Some (num 20) ∷ Some (num 30) ∷ [])

one_null_more : count_value 0 ≡ count_value 1 → ⊥
one_null_more h = cc

one_null_less : count_value 1 ≡ count_value 0 → ⊥
one_null_less h = cc

both_true : AreTrueSets (low_values ∷ high_values ∷ []) (of_low ∷ of_high ∷ [])
both_true = (low_is_true.0, (high_is_true.0, tt))

-- in the other order neither is
turned_sets : AreTrueSets (low_values ∷ high_values ∷ []) (of_high ∷ of_low ∷ []) → ⊥
turned_sets h = one_null_more (h.0.claims NullCount)

first_untrue : AreTrueSets (low_values ∷ high_values ∷ []) (of_high ∷ of_high ∷ []) → ⊥
first_untrue h = one_null_more (h.0.claims NullCount)

pub last_untrue : AreTrueSets (low_values ∷ high_values ∷ []) (of_low ∷ of_low ∷ []) → ⊥
last_untrue h = one_null_less (h.1.0.claims NullCount)

a_set_missing : AreTrueSets (low_values ∷ high_values ∷ []) (of_low ∷ []) → ⊥
a_set_missing h = h.1

a_set_over : AreTrueSets (low_values ∷ []) (of_low ∷ of_high ∷ []) → ⊥
a_set_over h = h.1

none_of_none : AreTrueSets [] []
none_of_none = tt

-- ---- maps of zones

abbrev columns_of : MapData → List (List (Option ScalarValue))
columns_of m = map (λ c. c.values) m.table.columns

abbrev greatest_of : MapData → Option (List (Option ScalarValue))
greatest_of m = slice_get (columns_of m) 0

reversed_differ : Some (Some (num 3) ∷ Some (num 30) ∷ Some (num 30) ∷ []) ≡ Some (Some (num 30) ∷ Some (num 30) ∷ Some (num 3) ∷ []) → ⊥
reversed_differ h = cc

not_of_reversed : IsMapOf (zone_of high ∷ zone_of mixed ∷ zone_of low ∷ []) their_map → ⊥
not_of_reversed h = reversed_differ (ap greatest_of h.same)

two_are_not_three : ◌≡◌ {A = List ℕ} (2 ∷ 2 ∷ 2 ∷ []) (2 ∷ 2 ∷ []) → ⊥
two_are_not_three h = cc

not_without_the_last : IsMapOf (zone_of low ∷ zone_of mixed ∷ []) their_map → ⊥
not_without_the_last h = two_are_not_three (ap (λ (m : MapData). m.rows) h.same)

counts_differ : ◌≡◌ {A = List ℕ} (2 ∷ []) (3 ∷ []) → ⊥
counts_differ h = cc

not_of_another_count : IsMapOf (record { rows = 3; stats = low.stats } ∷ []) (zone_map scope (zone_of low ∷ [])) → ⊥
not_of_another_count h = counts_differ (ap (λ (m : MapData). m.rows) h.same)

-- a set more tells nothing in the table, and yet it is no zone of the scope
abbrev with_another_set : ZoneData
with_another_set = record { rows = 2; stats = of_low ∷ [] ∷ [] }

not_of_unfit_zones : IsMapOf (with_another_set ∷ []) (zone_map scope (with_another_set ∷ [])) → ⊥
not_of_unfit_zones h = shut (h.are_zones 0 with_another_set refl)

of_no_zones : IsMapOf [] (zone_map scope [])
of_no_zones = record { are_zones = λ i zone there. absurd cc; same = refl }

-- ---- tables of zones that are handed in

none_and_seven : ◌≡◌ {A = ℕ} 0 7 → ⊥
none_and_seven h = omega (arith, h)

their_table : IsTableOf scope zones (2 ∷ 2 ∷ 2 ∷ []) (zone_columns scope zones)
their_table = record { are_zones = is_map.are_zones; counted = refl; told = refl }

not_of_other_counts : IsTableOf scope zones (2 ∷ 2 ∷ []) (zone_columns scope zones) → ⊥
not_of_other_counts h = two_are_not_three (sym h.counted)

not_of_other_columns : IsTableOf scope zones (2 ∷ 2 ∷ 2 ∷ []) [] → ⊥
not_of_other_columns h = none_and_seven (ap length h.told)

not_of_unfit_sets : IsTableOf scope (with_another_set ∷ []) (2 ∷ []) (zone_columns scope (with_another_set ∷ [])) → ⊥
not_of_unfit_sets h = shut (h.are_zones 0 with_another_set refl)

-- ---- ranges of a chunk

-- the value of a row of one column
abbrev cell_of : List Constant → Option ScalarValue
cell_of [] = None
cell_of (c ∷ row) = c.value

five_is_not_null : Some (num 5) ≡ None → ⊥
five_is_not_null h = cc

five_is_not_three : Some (num 5) ≡ Some (num 3) → ⊥
five_is_not_three h = cc

three_is_not_forty : Some (num 3) ≡ Some (num 40) → ⊥
three_is_not_forty h = cc

twenty_is_not_five : Some (num 20) ≡ Some (num 5) → ⊥
twenty_is_not_five h = cc

twenty_is_not_three : Some (num 20) ≡ Some (num 3) → ⊥
twenty_is_not_three h = cc

first_range : IsRange six_rows 0 low.chunk
first_range = below_two (λ i. row_of i low.chunk.columns ≡ row_of (0 + i) six_rows.columns) refl refl

-- the last row is another's, the first is, and it begins a row too late
last_row_differs : IsRange six_rows 0 (chunk_of (Some (num 3) ∷ Some (num 5) ∷ [])) → ⊥
last_row_differs h = five_is_not_null (ap cell_of (h 1 (omega arith)))

first_row_differs : IsRange six_rows 0 (chunk_of (Some (num 5) ∷ None ∷ [])) → ⊥
first_row_differs h = five_is_not_three (ap cell_of (h 0 (omega arith)))

a_row_too_late : IsRange eight_rows 0 low.chunk → ⊥
a_row_too_late h = three_is_not_forty (ap cell_of (h 0 (omega arith)))

-- each begins where the one before ends
a_range_left_out : AreRangesFrom six_rows 0 (low ∷ high ∷ []) → ⊥
a_range_left_out h = twenty_is_not_five (ap cell_of (h.1.0 0 (omega arith)))

first_is_no_range : AreRangesFrom six_rows 0 (high ∷ []) → ⊥
first_is_no_range h = twenty_is_not_three (ap cell_of (h.0 0 (omega arith)))

-- ---- binders: each is faithful, over the empty row and its part's row count

abbrev is_faithful : Bool → List Constant → ℕ → Bool
is_faithful b row n = b

last_is_unfaithful : AreFaithful is_faithful (low ∷ high ∷ []) (true ∷ false ∷ []) → ⊥
last_is_unfaithful h = shut h.1.0

first_is_unfaithful : AreFaithful is_faithful (low ∷ high ∷ []) (false ∷ true ∷ []) → ⊥
first_is_unfaithful h = shut h.0

-- only over this row count, or only over an empty row
abbrev over_two_rows : Bool → List Constant → ℕ → Bool
over_two_rows b row n = n == 2

of_two_rows : AreFaithful over_two_rows (low ∷ []) (true ∷ [])
of_two_rows = (refl, tt)

of_one_row : AreFaithful over_two_rows (part (None ∷ []) [] ∷ []) (true ∷ []) → ⊥
of_one_row h = shut h.0

abbrev is_empty : List Constant → Bool
is_empty [] = true
is_empty (c ∷ row) = false

over_the_empty_row : AreFaithful (λ (b : Bool) row n. is_empty row) (low ∷ []) (true ∷ [])
over_the_empty_row = (refl, tt)

-- ---- each is honest for its part, and by its part's statistics

abbrev of_part : PartData → List Constant → ℕ → Assignment
of_part p row n = part_values p

last_is_dishonest : AreHonest of_part (mixed ∷ low ∷ []) (mixed ∷ mixed ∷ []) → ⊥
last_is_dishonest h = five_is_above (h.1.0.facts aggregate.Min a)

first_is_dishonest : AreHonest of_part (low ∷ mixed ∷ []) (mixed ∷ mixed ∷ []) → ⊥
first_is_dishonest h = five_is_above (h.0.facts aggregate.Min a)

last_is_by_others : AreByStatistics of_part (mixed ∷ low ∷ []) (mixed ∷ mixed ∷ []) → ⊥
last_is_by_others h = five_is_not_three (ap (λ (A : Assignment). A aggregate.Min a) h.1.0)

first_is_by_others : AreByStatistics of_part (low ∷ mixed ∷ []) (mixed ∷ mixed ∷ []) → ⊥
first_is_by_others h = five_is_not_three (ap (λ (A : Assignment). A aggregate.Min a) h.0)
