use Rattle.std.proofs.Common.{take}
use Rattle.vortex_capi.specs.Measures.{slots_in}
use Rattle.vortex_capi.specs.Slots.{AreSlots}
use Rattle.vortex_capi.proofs.measure.slots_in.Given as goal

abbrev pub invariant-loop-stat : goal.invariant-loop-stat
invariant-loop-stat l = AreSlots l.slots (slots_in l.dtype l.set (take l.stat-index l.wanted))
