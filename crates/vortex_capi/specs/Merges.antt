-- The statistics of neighbouring chunks, merged pair by pair.
use Rattle.std.specs.Prelude.{ℕ, ◌==◌, List, [], Option, None, Some, Result, Ok, Err, if◌then◌else◌, length, map, min, slice_get, slice_index, zero, suc, Bool, false}
use Rattle.std.specs.List.{flat_map}
use Rattle.vortex_base.specs.declared.dtype.DType.{DType}
use Rattle.vortex_stats.specs.declared.stat.Stat.{Stat}
use Rattle.vortex_stats.specs.Merging.Merges.{merged_ordered}
use Rattle.vortex_stats.specs.Sets.Entries.{entry_value, with_entry}
use Rattle.vortex_capi.specs.declared.fault.Refusal.{Refusal}
use Rattle.vortex_capi.specs.declared.statistic.Statistic.{Statistic}
use Rattle.vortex_capi.specs.declared.status.Status.{Status}
use Rattle.vortex_capi.specs.declared.status.Status.TheVariants.{BadLength, BadStat}
use Rattle.vortex_capi.specs.Measures.{slots_in, stat_of, wanted_of}
use Rattle.vortex_capi.specs.Refusals.{all_found, all_read, followed, placed, stepped}
use Rattle.vortex_capi.specs.Slots.{Slot, slot_of}
use Rattle.vortex_capi.specs.Statistics.{Entry, entry, fills}
use Rattle.vortex_capi.specs.Statuses.{at_entry, in_column}
use Rattle.vortex_capi.specs.Types.{dtype_of}

-- a set of statistics, as the list of its entries
abbrev pub Entries : Type 0
Entries = List Entry

-- ---- what both tables tell

-- the statistic that has this number in both
abbrev pub common_stat : DType → ℕ → ℕ → Result Stat Status
common_stat t m n = if m == n then stat_of t m else Err BadStat

-- the numbers of a table's statistics
abbrev pub numbers_of : List Statistic → List ℕ
numbers_of xs = map (λ x. x.stat) xs

abbrev pub common_of : DType → List ℕ → List ℕ → Result (List Stat) Refusal
common_of t ms ns = all_read at_entry (λ i. common_stat t (slice_index ms i) (slice_index ns i)) (length ms)

-- the statistics, which are the same in both in the same order, or the first place where they aren't
abbrev pub common : DType → List Statistic → List Statistic → Result (List Stat) Refusal
common t left right =
    if length left == length right then common_of t (numbers_of left) (numbers_of right) else Err (at_entry BadLength (min (length left) (length right)))

-- ---- the lengths of a table's arrays

abbrev pub fills_or : DType → (zones : ℕ) → Option Statistic → Bool
fills_or t zones None = false
fills_or t zones (Some x) = fills t zones x

abbrev pub filled_at : (table : ℕ) → DType → (zones : ℕ) → List Statistic → ℕ → Unit {0} → Result (Unit {0}) Refusal
filled_at table t zones xs i u = if fills_or t zones (slice_get xs i) then Ok tt else Err (in_column 0 table BadLength i)

-- the arrays of each statistic of a table have an element for each zone and no more, or the first is refused of which that isn't so; which table it is, is told
abbrev pub filled : (table : ℕ) → DType → (zones : ℕ) → List Statistic → Result (Unit {0}) Refusal
filled table t zones xs = stepped (filled_at table t zones xs) tt (length xs)

-- ---- the sets of a zone

abbrev pub entry_or : DType → ℕ → Option Statistic → Result Entry Status
entry_or t zone None = Err BadLength
entry_or t zone (Some x) = entry t zone x

-- the statistic at a place of a table with its value in a zone; a refusal tells which table it is
abbrev pub entry_at : ℕ → DType → ℕ → List Statistic → ℕ → Result Entry Refusal
entry_at table t zone xs i = placed (λ s. in_column zone table s i) (entry_or t zone (slice_get xs i))

-- the set with the next statistic; of two of the same number the later counts
abbrev pub with_next : ℕ → DType → ℕ → List Statistic → ℕ → Entries → Result Entries Refusal
with_next table t zone xs i set = followed (entry_at table t zone xs i) (λ e. Ok (with_entry e.0 e.1 set))

-- the set that a table gives for a zone of a column of a type
abbrev pub set_given : ℕ → DType → ℕ → List Statistic → Result Entries Refusal
set_given table t zone xs = stepped (with_next table t zone xs) [] (length xs)

-- ---- the merge

-- the set of the left table's zone, table 0, followed by that of the right one's, table 1
abbrev pub merged_set : DType → List Statistic → List Statistic → ℕ → Result Entries Refusal
merged_set t left right zone = followed (set_given 0 t zone left) (λ a. followed (set_given 1 t zone right) (λ b. Ok (merged_ordered a b)))

-- that of each zone, in order
abbrev pub merged_sets : DType → List Statistic → List Statistic → ℕ → Result (List Entries) Refusal
merged_sets t left right zones = all_found (merged_set t left right) zones

-- a statistic in each zone
abbrev pub slots_of_stat : DType → List Entries → Stat → List Slot
slots_of_stat t sets s = map (λ set. slot_of t s (entry_value s set)) sets

-- the statistics one after another, each in all zones
abbrev pub slots_by_stat : DType → List Entries → List Stat → List Slot
slots_by_stat t sets wanted = flat_map (slots_of_stat t sets) wanted

-- the merged statistics of a column of a type
abbrev pub merged_as : List Statistic → List Statistic → ℕ → DType → Result (List Slot) Refusal
merged_as left right zones t =
    followed (common t left right) (λ wanted. followed (filled 0 t zones left) (λ u. followed (filled 1 t zones right) (λ v.
    followed (merged_sets t left right zones) (λ sets. Ok (slots_by_stat t sets wanted)))))

abbrev pub merged : (kind nullable zones : ℕ) → List Statistic → List Statistic → Result (List Slot) Refusal
merged kind nullable zones left right = followed (placed (λ s. at_entry s 0) (dtype_of kind nullable)) (merged_as left right zones)

-- ---- the zones of one table as one chunk

-- the set of the zones before one, followed by that of the zone
abbrev pub next_zone : DType → List Statistic → ℕ → Entries → Result Entries Refusal
next_zone t xs zone set = followed (set_given 0 t zone xs) (λ next. Ok (merged_ordered set next))

-- the set of the first zone, followed by that of each further one in order; of no zones nothing is known
abbrev pub zones_set : DType → List Statistic → (zones : ℕ) → Result Entries Refusal
zones_set t xs zero = Ok []
zones_set t xs (suc n) = followed (set_given 0 t 0 xs) (λ first. stepped (λ k. next_zone t xs (suc k)) first n)

-- the statistics of a column of a type in all zones together
abbrev pub together_as : List Statistic → (zones : ℕ) → DType → Result (List Slot) Refusal
together_as xs zones t =
    followed (wanted_of t (numbers_of xs)) (λ wanted. followed (filled 0 t zones xs) (λ u. followed (zones_set t xs zones) (λ set. Ok (slots_in t set wanted))))

abbrev pub together : (kind nullable zones : ℕ) → List Statistic → Result (List Slot) Refusal
together kind nullable zones xs = followed (placed (λ s. at_entry s 0) (dtype_of kind nullable)) (together_as xs zones)
