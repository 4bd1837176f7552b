use Rattle.vortex_normal.proofs.Grouped.{grouped_told}
use Rattle.vortex_normal.proofs.laws.groups_are_same.Goals as goal

pub returns : goal.returns
returns c = λ p row n. grouped_told row n p
