use Rattle.vortex_stats.proofs.Truth.EntryClaims.{true_by_entry}
use Rattle.vortex_stats.proofs.laws.truth.sets_are_true_by_entry.Goals as goal

pub returns : goal.returns
returns c = λ es r d f. true_by_entry r es d f
