use Rattle.vortex_stats.proofs.Truth.KeptTruth.{inexact_entry_is_true}
use Rattle.vortex_stats.proofs.laws.truth.loosened_sets_stay_true.Goals as goal

pub returns : goal.returns
returns c = inexact_entry_is_true
