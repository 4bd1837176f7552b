use Rattle.std.proofs.Common.{map, refl, subst}
use Rattle.std.proofs.lemmas.List.{take_all}
use Rattle.vortex_stats.specs.Measuring.Told.{told}
use Rattle.vortex_capi.specs.Measures.{slots_of}
use Rattle.vortex_capi.specs.Slots.{AreSlots, slot_of}
use Rattle.vortex_capi.proofs.ExtentLemmas.{slots_told}
use Rattle.vortex_capi.proofs.measure.slots_of_extent.Goals as goal

pub returns : goal.returns
returns c = λ column is dtype size.
    let wanted = c.args.wanted.now in (
      slots_of column wanted,
      refl,
      rw (slots_told column wanted)
          (subst (λ ss. AreSlots c.loop-stat.slots (map (λ s. slot_of column.dtype s (told column s)) ss)) (take_all c.loop-stat.stat-index wanted c.loop-stat-test.false) (c.loop-stat.invariant column is dtype size)),
    )
