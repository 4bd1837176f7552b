use Rattle.vortex_floats.proofs.WorkedRows.{cells_hold, numbers_hold}
use Rattle.vortex_floats.proofs.laws.examples_hold.Goals as goal

pub returns-clause-cells : goal.returns-clause-cells
returns-clause-cells c = cells_hold

pub returns-clause-numbers : goal.returns-clause-numbers
returns-clause-numbers c = numbers_hold
