use Rattle.vortex_prune.proofs.Scanning.Boxes.{falsifiers_are_complete}
use Rattle.vortex_prune.proofs.laws.falsifiers_are_complete.Goals as goal

pub returns : goal.returns
returns c = falsifiers_are_complete
