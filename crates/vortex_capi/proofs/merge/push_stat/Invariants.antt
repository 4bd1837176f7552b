use Rattle.std.proofs.Common.{◌++◌, List, take}
use Rattle.vortex_capi.specs.Merges.{slots_of_stat}
use Rattle.vortex_capi.specs.Slots.{AreSlots, Slot}
use Rattle.vortex_capi.proofs.merge.push_stat.Given as goal

abbrev pub invariant-loop-set : goal.invariant-loop-set
invariant-loop-set l = (before : List Slot) → AreSlots l.fn.slots before → AreSlots l.slots (before ++ slots_of_stat l.dtype (take l.set-index l.sets) l.stat)
