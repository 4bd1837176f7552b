use Rattle.vortex_predicates.proofs.RowGroups.Sound.{parts_of}
use Rattle.vortex_predicates.proofs.row_groups.laws.groups_are_parts.Goals as goal

pub returns : goal.returns
returns c = parts_of c.groups_are_true.ensures.sets c.groups_are_true.ensures.known
