use Rattle.vortex_expr.specs.Trees.Tree.{binary}
use Rattle.vortex_syntax.proofs.Typed.{built_fault}
use Rattle.vortex_syntax.proofs.expression.binary.Goals as goal

pub returns-in-Err : goal.returns-in-Err
returns-in-Err c = built_fault (binary c.args.operator c.args.left c.args.right) c.in-Err.refusal c.of_refusal.result c.in-Err.ensures c.of_refusal.ensures
