use Rattle.std.proofs.Common.{refl}
use Rattle.vortex_expr.specs.declared.scalar_fn.Operator.TheVariants.{Eq, NotEq}
use Rattle.vortex_rewrite.proofs.Rewriting.ProofTypes.{compare_turned, operands_compare}
use Rattle.vortex_rewrite.proofs.rewrite.builtins.comparison.comparison_falsifier.Goals as goal

pub compared-requires-in-Eq-clause-comparable : goal.compared-requires-in-Eq-clause-comparable
compared-requires-in-Eq-clause-comparable c = compare_turned c.args.left.now c.args.right.now (operands_compare c.args.operator Eq c.args.left.now c.args.right.now c.in-Eq.is refl c.requires)

pub compared-requires-in-NotEq-2-clause-comparable : goal.compared-requires-in-NotEq-2-clause-comparable
compared-requires-in-NotEq-2-clause-comparable c = operands_compare c.args.operator NotEq c.args.left.now c.args.right.now c.in-NotEq.is refl c.requires
