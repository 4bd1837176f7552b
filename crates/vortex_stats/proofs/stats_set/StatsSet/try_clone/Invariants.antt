use Rattle.std.specs.Prelude.{IsTrue}
use Rattle.std.proofs.Common.{◌≡◌}
use Rattle.vortex_stats.specs.Copies.{set_copies}
use Rattle.vortex_stats.specs.Sets.Entries.{with_entries}
use Rattle.vortex_stats.proofs.stats_set.StatsSet.try_clone.Given as goal

-- setting what is left makes the set, and what copies there copies in the set
abbrev pub invariant-loop-entry : goal.invariant-loop-entry
invariant-loop-entry l = record {
  made : with_entries l.entry-iterator l.set ≡ l.self;
  copies : IsTrue (set_copies l.entry-iterator) → IsTrue (set_copies l.self);
}
