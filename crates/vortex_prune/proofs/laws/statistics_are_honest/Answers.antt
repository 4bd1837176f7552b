use Rattle.vortex_prune.proofs.Honesty.HonestParts.{part_is_honest}
use Rattle.vortex_prune.proofs.laws.statistics_are_honest.Goals as goal

pub returns : goal.returns
returns c = part_is_honest
