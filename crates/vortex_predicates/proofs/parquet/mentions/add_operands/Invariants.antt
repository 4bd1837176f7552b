use Rattle.std.proofs.Common.{◌≡◌, ◌++◌, drop}
use Rattle.vortex_predicates.specs.Footers.Mentions.{of_operands, views}
use Rattle.vortex_predicates.proofs.parquet.mentions.add_operands.Given as goal

abbrev pub invariant-loop-operand : goal.invariant-loop-operand
invariant-loop-operand l = views l.found.items ++ of_operands l.leaf (drop l.operand-index l.operands) ≡ views l.initial.found.items ++ of_operands l.leaf l.operands
