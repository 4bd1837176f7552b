use Rattle.vortex_stats.proofs.Truth.UnorderedTruth.{merged_unordered-not_sorted, merged_unordered-not_strict}
use Rattle.vortex_stats.proofs.laws.truth.unordered_merges_forget_order.Goals as goal

pub returns : goal.returns
returns c = record { sorted = merged_unordered-not_sorted; strict_sorted = merged_unordered-not_strict }
