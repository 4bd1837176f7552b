use Rattle.vortex_stats.specs.declared.stat.Stat.TheVariants as stats
use Rattle.vortex_stats.specs.Copies.{is_bound_copied}
use Rattle.vortex_stats.specs.Sets.Entries.{entry_value}
use Rattle.vortex_stats.specs.Merging.Merges.{merged_value}
use Rattle.vortex_stats.proofs.Logic.{or_right, on_err}
use Rattle.vortex_stats.proofs.merge.ordered_changes.Goals as goal

pub returns-in_err-min_change-clause-refused : goal.returns-in_err-min_change-clause-refused
returns-in_err-min_change-clause-refused c =
    let left = c.args.left.now in
    let other = c.args.other.now in
    let max_copied = is_bound_copied (entry_value stats.Max left) (merged_value stats.Max left other) in
    let min_copied = is_bound_copied (entry_value stats.Min left) (merged_value stats.Min left other) in
    on_err c.from_residual-in_err-min_change.result (or_right max_copied min_copied c.in_err-min_change.ensures.refused)
