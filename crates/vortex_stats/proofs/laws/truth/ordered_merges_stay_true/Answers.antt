use Rattle.vortex_stats.proofs.Truth.MergedTruth.{merged_ordered_is_true}
use Rattle.vortex_stats.proofs.laws.truth.ordered_merges_stay_true.Goals as goal

pub returns : goal.returns
returns c = merged_ordered_is_true
