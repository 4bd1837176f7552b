use Rattle.vortex_prune.proofs.Chosen.ChosenColumns.{chosen_stay_true}
use Rattle.vortex_prune.proofs.laws.chosen_sets_stay_true.Goals as goal

pub returns : goal.returns
returns c = chosen_stay_true
