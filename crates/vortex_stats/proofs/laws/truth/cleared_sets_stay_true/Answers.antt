use Rattle.vortex_stats.proofs.Truth.KeptTruth.{without_entry_is_true}
use Rattle.vortex_stats.proofs.laws.truth.cleared_sets_stay_true.Goals as goal

pub returns : goal.returns
returns c = without_entry_is_true
