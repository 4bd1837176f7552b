use Rattle.vortex_prune.proofs.Scanning.RangeThere.{ranges_are_there, ranges_behind_are_there}
use Rattle.vortex_prune.proofs.laws.ranges_are_there.Goals as goal

pub returns-clause-from_the_first : goal.returns-clause-from_the_first
returns-clause-from_the_first c = ranges_are_there

pub returns-clause-from_a_row_on : goal.returns-clause-from_a_row_on
returns-clause-from_a_row_on c = ranges_behind_are_there
