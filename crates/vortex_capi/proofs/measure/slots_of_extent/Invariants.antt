use Rattle.std.proofs.Common.{◌≡◌, map, take}
use Rattle.vortex_base.specs.Data.Columns.{ColumnData}
use Rattle.vortex_stats.specs.Measuring.Told.{told}
use Rattle.vortex_capi.specs.Extents.{IsExtentOf}
use Rattle.vortex_capi.specs.Slots.{AreSlots, slot_of}
use Rattle.vortex_capi.proofs.measure.slots_of_extent.Given as goal

abbrev pub invariant-loop-stat : goal.invariant-loop-stat
invariant-loop-stat l = (c : ColumnData) → IsExtentOf l.extent c → c.dtype ≡ l.dtype → c.size ≡ l.size → AreSlots l.slots (map (λ s. slot_of c.dtype s (told c s)) (take l.stat-index l.wanted))
