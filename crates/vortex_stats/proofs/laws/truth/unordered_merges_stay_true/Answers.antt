use Rattle.vortex_stats.proofs.Truth.UnorderedTruth.{merged_unordered_is_true}
use Rattle.vortex_stats.proofs.laws.truth.unordered_merges_stay_true.Goals as goal

pub returns : goal.returns
returns c = merged_unordered_is_true
