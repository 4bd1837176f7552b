use Rattle.vortex_rewrite.proofs.Rewriting.BuiltInOrder.{falsifiers_in_order, of_function, satisfiers_in_order}
use Rattle.vortex_rewrite.proofs.laws.built_in_rules_are_in_order.Goals as goal

pub returns-clause-order : goal.returns-clause-order
returns-clause-order c = λ own p id h. (falsifiers_in_order own p id h, satisfiers_in_order own p id h)

pub returns-clause-functions : goal.returns-clause-functions
returns-clause-functions c = of_function
