use Rattle.std.proofs.Common.{◌≡◌, ◌+◌, ◌≤◌, length}
use Rattle.std.specs.Prelude.{IsTrue}
use Rattle.vortex_stats.specs.Sets.Changes.{changed_by}
use Rattle.vortex_stats.specs.Merging.Combined.{combined}
use Rattle.vortex_stats.specs.Merging.CombineSteps.{AgreeOn}
use Rattle.vortex_stats.specs.Copies.{combination_copies}
use Rattle.vortex_stats.specs.Sets.Entries.{entries_fit, AreDistinct}
use Rattle.vortex_stats.proofs.stats_set.StatsSet.combine_sets.Given as goal

-- the set is as it was; combining what is left with the changed entries comes to the same and copies no more, and the changes touch no statistic that is left
abbrev pub invariant-loop-entry : goal.invariant-loop-entry
invariant-loop-entry l = record {
  unchanged : l.self ≡ l.fn.self;
  same : combined (changed_by l.changes.items l.self) l.entry-iterator ≡ combined l.fn.self l.other;
  copies : IsTrue (combination_copies (changed_by l.changes.items l.self) l.entry-iterator) → IsTrue (combination_copies l.fn.self l.other);
  agree : AgreeOn l.entry-iterator l.self (changed_by l.changes.items l.self);
  distinct : AreDistinct l.entry-iterator;
  room : length l.changes.items + length l.entry-iterator ≤ 9;
  inline : l.changes.capacity ≡ 9;
  left_fits : IsTrue (entries_fit l.self l.dtype);
  work_fits : IsTrue (entries_fit (changed_by l.changes.items l.self) l.dtype);
  rest_fits : IsTrue (entries_fit l.entry-iterator l.dtype);
}
