use Rattle.std.proofs.Common.{◌≡◌, ◌+◌, ◌-◌, ◌*◌, length, List}
use Rattle.vortex_parquet.specs.Skip.{skip_at, skip_entry, skip_item, struct_at, times, fields_in, FieldData}
use Rattle.vortex_parquet.proofs.Loops.{with_front}
use Rattle.vortex_parquet.proofs.skip.+skip.Given as goal

abbrev pub decreases-skip : goal.decreases-skip
decreases-skip l = 6 * l.depth

abbrev pub decreases-skip_item : goal.decreases-skip_item
decreases-skip_item l = 6 * l.depth + 1

abbrev pub decreases-skip_entry : goal.decreases-skip_entry
decreases-skip_entry l = 6 * l.depth + 2

abbrev pub decreases-skip_entries : goal.decreases-skip_entries
decreases-skip_entries l = 6 * l.depth + 3

abbrev pub decreases-skip_fields : goal.decreases-skip_fields
decreases-skip_fields l = 6 * l.depth + 3

abbrev pub decreases-skip_items : goal.decreases-skip_items
decreases-skip_items l = 6 * l.depth + 3

abbrev pub decreases-skip_list : goal.decreases-skip_list
decreases-skip_list l = 6 * l.depth + 4

abbrev pub decreases-skip_map : goal.decreases-skip_map
decreases-skip_map l = 6 * l.depth + 4

abbrev pub decreases-skip_value : goal.decreases-skip_value
decreases-skip_value l = 6 * l.depth + 5

abbrev pub invariant-skip_entries-loop : goal.invariant-skip_entries-loop
invariant-skip_entries-loop l = let one = skip_entry (skip_at l.depth) l.head.key l.head.value in times one (l.head.count - l.counter) l.rest ≡ times one l.head.count l.bytes

abbrev pub invariant-skip_items-loop : goal.invariant-skip_items-loop
invariant-skip_items-loop l = let one = skip_item (skip_at l.depth) l.kind in times one (l.count - l.counter) l.rest ≡ times one l.count l.bytes

abbrev pub invariant-skip_fields-loop : goal.invariant-skip_fields-loop
invariant-skip_fields-loop l = (front : List FieldData) × (with_front front (fields_in (skip_at l.depth) (length l.bytes - l.counter) l.last l.rest) ≡ struct_at (skip_at l.depth) l.bytes)
