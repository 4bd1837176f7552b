-- Worked rows: logs of three zones of two columns, found by computation alone.
use Rattle.std.specs.Prelude.{◌≡◌, ◌+◌, ◌++◌, ℕ, [], ◌∷◌, Some, None, codes, length, pos, refl}
use Rattle.vortex_base.specs.declared.array_data.PrimitiveScalar.TheVariants as cell
use Rattle.vortex_base.specs.declared.pvalue.PValue.TheVariants as number
use Rattle.vortex_base.specs.declared.scalar_value.ScalarValue.{ScalarValue}
use Rattle.vortex_base.specs.declared.scalar_value.ScalarValue.TheVariants as value
use Rattle.vortex_zone_map.specs.Zone.{Entries, ZoneData}
use Rattle.vortex_stats.specs.declared.precision.Precision.TheVariants.{Absent, Exact, Inexact}
use Rattle.vortex_stats.specs.declared.stat.Stat.TheVariants.{Max, Min, NullCount}
use Rattle.vortex_zone_map.specs.Blocks.{all_in, before}
use Rattle.vortex_zone_map.specs.Kept.{log_of}
use Rattle.vortex_zone_map.specs.Logs.{LogData, empty_sets, ended, joined_at, with_told, zones_from}
use Rattle.vortex_zone_map.specs.declared.blocks.Block.{Block}
use Rattle.vortex_zone_map.specs.declared.stored_value.ValueTag.TheVariants as form
use Rattle.vortex_zone_map.specs.declared.entry_range.EntryRange.{EntryRange}
use Rattle.vortex_zone_map.specs.declared.stat_entry.StatEntry.{StatEntry}

abbrev pub num : ℕ → ScalarValue
num n = value.Primitive (number.I64 (pos n))

abbrev pub count : ℕ → ScalarValue
count n = value.Primitive (number.U64 n)

abbrev pub zone : ℕ → Entries → Entries → ZoneData
zone rows a b = record { rows = rows; stats = a ∷ b ∷ [] }

-- ---- what is told

abbrev start : LogData
start = record { zones = []; current = empty_sets 2 }

-- a maximum twice, a minimum and the nulls of the second column
abbrev first : LogData
first = ended 3 (with_told 1 NullCount (Exact (count 1)) (with_told 0 Max (Exact (num 7)) (with_told 0 Min (Exact (num 2)) (with_told 0 Max (Exact (num 5)) start))))

-- nothing known of a maximum, and a column that isn't there
abbrev second : LogData
second = ended 4 (with_told 2 Max (Exact (num 1)) (with_told 1 NullCount (Exact (count 2)) (with_told 0 Max Absent first)))

abbrev third : LogData
third = ended 5 (with_told 1 NullCount (Inexact (count 4)) (with_told 0 Max (Exact (num 9)) second))

abbrev pub zone_1 : ZoneData
zone_1 = zone 3 ((Max, Exact (num 7)) ∷ (Min, Exact (num 2)) ∷ []) ((NullCount, Exact (count 1)) ∷ [])

abbrev pub zone_2 : ZoneData
zone_2 = zone 4 ((Max, Absent) ∷ []) ((NullCount, Exact (count 2)) ∷ [])

abbrev zone_3 : ZoneData
zone_3 = zone 5 ((Max, Exact (num 9)) ∷ []) ((NullCount, Inexact (count 4)) ∷ [])

first_zones : first.zones ≡ zone_1 ∷ []
first_zones = refl

third_zones : third.zones ≡ zone_1 ∷ zone_2 ∷ zone_3 ∷ []
third_zones = refl

nothing_current : third.current ≡ [] ∷ [] ∷ []
nothing_current = refl

told_current : (with_told 1 Min (Exact (num 6)) third).current ≡ [] ∷ ((Min, Exact (num 6)) ∷ []) ∷ []
told_current = refl

-- ---- joins

at_the_front : joined_at 0 third.zones ≡ Some (zone 7 [] ((NullCount, Exact (count 3)) ∷ []) ∷ zone_3 ∷ [])
at_the_front = refl

at_the_end : joined_at 1 third.zones ≡ Some (zone_1 ∷ zone 9 [] ((NullCount, Inexact (count 6)) ∷ []) ∷ [])
at_the_end = refl

of_a_join : joined_at 0 (zone_1 ∷ zone 9 [] ((NullCount, Inexact (count 6)) ∷ []) ∷ []) ≡ Some (zone 12 [] ((NullCount, Inexact (count 7)) ∷ []) ∷ [])
of_a_join = refl

of_bounds : joined_at 0 (zone_1 ∷ zone_3 ∷ []) ≡ Some (zone 8 ((Max, Exact (num 9)) ∷ []) ((NullCount, Inexact (count 5)) ∷ []) ∷ [])
of_bounds = refl

of_the_last : joined_at 2 third.zones ≡ None
of_the_last = refl

past_the_end : joined_at 3 third.zones ≡ None
past_the_end = refl

-- ---- zones from a place on

middle : zones_from 1 1 third.zones ≡ zone_2 ∷ []
middle = refl

last_two : zones_from 1 2 third.zones ≡ zone_2 ∷ zone_3 ∷ []
last_two = refl

none_of_them : zones_from 3 0 third.zones ≡ []
none_of_them = refl

-- ---- how it is kept: three zones, and a text

abbrev told : ℕ → StatEntry
told n = record { column = 0; stat = Max; form = form.Exact; cell = cell.I64 (pos n) }

abbrev text : StatEntry
text = record { column = 1; stat = Max; form = form.LongInexact; cell = cell.U64 0 }

abbrev stretch : (rows from to : ℕ) → EntryRange
stretch rows from to = record { rows = rows; from = from; to = to }

abbrev kept : LogData
kept = log_of 2 (value.Utf8 (codes "k") ∷ []) (told 5 ∷ told 7 ∷ told 8 ∷ text ∷ told 9 ∷ []) (told 6 ∷ []) (stretch 3 0 2 ∷ stretch 4 2 4 ∷ stretch 5 4 5 ∷ [])

kept_zones : kept.zones ≡ zone 3 ((Max, Exact (num 7)) ∷ []) [] ∷ zone 4 ((Max, Exact (num 8)) ∷ []) ((Max, Inexact (value.Utf8 (codes "k"))) ∷ []) ∷ zone 5 ((Max, Exact (num 9)) ∷ []) [] ∷ []
kept_zones = refl

kept_current : kept.current ≡ ((Max, Exact (num 6)) ∷ []) ∷ [] ∷ []
kept_current = refl

-- ---- three blocks, whatever they have

in_order : (a b c : Block) → all_in (a ∷ b ∷ c ∷ []) ≡ a.stretches.items ++ (b.stretches.items ++ (c.stretches.items ++ []))
in_order a b c = refl

before_the_first : (a b c : Block) → before (a ∷ b ∷ c ∷ []) 0 ≡ 0
before_the_first a b c = refl

before_the_last : (a b c : Block) → before (a ∷ b ∷ c ∷ []) 2 ≡ length a.stretches.items + (length b.stretches.items + 0)
before_the_last a b c = refl

before_none : (a b c : Block) → before (a ∷ b ∷ c ∷ []) 4 ≡ length a.stretches.items + (length b.stretches.items + (length c.stretches.items + 0))
before_none a b c = refl
