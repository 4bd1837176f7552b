use Rattle.std.proofs.Common.{◌≡◌, take}
use Rattle.vortex_prune.proofs.bind.stats_binder.StatsBinder.of_parts.Given as goal

abbrev pub invariant-loop-part : goal.invariant-loop-part
invariant-loop-part l = l.binders.items ≡ take l.part-index l.parts
