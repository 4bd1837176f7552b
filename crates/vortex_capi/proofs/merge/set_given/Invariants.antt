use Rattle.std.proofs.Common.{◌≡◌, [], Ok}
use Rattle.std.specs.Prelude.{IsTrue}
use Rattle.vortex_stats.specs.Sets.Entries.{entries_fit}
use Rattle.vortex_capi.specs.Merges.{with_next}
use Rattle.vortex_capi.specs.Refusals.{stepped}
use Rattle.vortex_capi.proofs.merge.set_given.Given as goal

abbrev pub invariant-loop-entry : goal.invariant-loop-entry
invariant-loop-entry l = (stepped (with_next l.side l.dtype l.zone l.table) [] l.entry ≡ Ok l.set) × IsTrue (entries_fit l.set l.dtype)
