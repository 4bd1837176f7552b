use Rattle.vortex_stats.proofs.Truth.UnorderedTruth.{merged_unordered-same_value, merged_unordered-same_entry}
use Rattle.vortex_stats.proofs.laws.truth.unordered_merges_commute.Goals as goal

pub returns : goal.returns
returns c = record { statistics = merged_unordered-same_entry; values = merged_unordered-same_value }
