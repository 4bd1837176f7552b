use Rattle.std.proofs.Common.{[], ap, ◌∙◌}
use Rattle.vortex_stats.specs.Sets.Entries.{with_entries}
use Rattle.vortex_stats.proofs.Sets.Places.{with_entries-distinct}
use Rattle.vortex_stats.proofs.stats_set.StatsSet.new_unchecked.Goals as goal

pub loop-entry-init : goal.loop-entry-init
loop-entry-init c =
    ap (with_entries c.into_iter-entry-iterator.result) c.new-set.ensures
    ∙ ap (λ es. with_entries es []) c.into_iter-entry-iterator.ensures.into_iter_gives.0 ∙ with_entries-distinct c.args.entries.items c.requires
