use Rattle.vortex_stats.proofs.Truth.KeptTruth.{retained_entries_are_true}
use Rattle.vortex_stats.proofs.laws.truth.retained_sets_stay_true.Goals as goal

pub returns : goal.returns
returns c = retained_entries_are_true
