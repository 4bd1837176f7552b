use Rattle.vortex_stats.proofs.Truth.CombinedTruth.{combined_is_true}
use Rattle.vortex_stats.proofs.laws.truth.combinations_stay_true.Goals as goal

pub returns : goal.returns
returns c = λ a b r d p q. (combined_is_true r a b d p q).1
