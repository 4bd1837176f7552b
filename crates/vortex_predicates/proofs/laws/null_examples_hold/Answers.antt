use Rattle.vortex_predicates.proofs.NullRows.{far_examples, null_examples, null_zone_examples, one_sided_examples}
use Rattle.vortex_predicates.proofs.laws.null_examples_hold.Goals as goal

pub returns-clause-predicates : goal.returns-clause-predicates
returns-clause-predicates c = null_examples

pub returns-clause-zones : goal.returns-clause-zones
returns-clause-zones c = null_zone_examples

pub returns-clause-one_sided : goal.returns-clause-one_sided
returns-clause-one_sided c = one_sided_examples

pub returns-clause-boxes : goal.returns-clause-boxes
returns-clause-boxes c = far_examples
