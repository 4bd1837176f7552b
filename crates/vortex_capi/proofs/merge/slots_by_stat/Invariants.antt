use Rattle.std.proofs.Common.{take}
use Rattle.vortex_capi.specs.Merges.{slots_by_stat}
use Rattle.vortex_capi.specs.Slots.{AreSlots}
use Rattle.vortex_capi.proofs.merge.slots_by_stat.Given as goal

abbrev pub invariant-loop-stat : goal.invariant-loop-stat
invariant-loop-stat l = AreSlots l.slots (slots_by_stat l.dtype l.sets (take l.stat-index l.stats))
