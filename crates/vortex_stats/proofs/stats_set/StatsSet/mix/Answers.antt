use Rattle.std.proofs.Common.{◌≡◌, true, refl, sym, subst, ◌∙◌}
use Rattle.vortex_stats.specs.Sets.Entries.{entries_fit}
use Rattle.vortex_stats.specs.Merging.Merges.{unordered_value}
use Rattle.vortex_stats.proofs.Sets.Revisions.{all_changed-made, unordered-needs_own}
use Rattle.vortex_stats.proofs.Merging.MergedFits.{merged_unordered-fits}
use Rattle.vortex_stats.proofs.stats_set.StatsSet.mix.Goals as goal

pub returns-clause-merged : goal.returns-clause-merged
returns-clause-merged c =
    c.change_all.ensures
    ∙ all_changed-made c.in_ok-changes.changes (λ s. unordered_value s c.args.self.now c.args.other.now) c.args.self.now (unordered-needs_own c.args.self.now c.args.other.now) refl c.in_ok-changes.ensures.made

pub returns-clause-fits : goal.returns-clause-fits
returns-clause-fits c =
    subst (λ es. entries_fit es c.args.dtype.now ≡ true) (sym (returns-clause-merged c))
    (merged_unordered-fits c.args.dtype.now c.args.self.now c.args.other.now c.requires.left_fits c.requires.other_fits)
