use Rattle.std.proofs.Common.{◌≡◌, Ok, IsTrue}
use Rattle.vortex_stats.specs.Sets.Entries.{entries_fit}
use Rattle.vortex_capi.specs.Merges as spec
use Rattle.vortex_capi.proofs.merge_zones.zones_set.Given as goal

abbrev pub invariant-loop-zone : goal.invariant-loop-zone
invariant-loop-zone l = (spec.zones_set l.dtype l.table l.zone ≡ Ok l.set) × IsTrue (entries_fit l.set l.dtype)
