use Rattle.vortex_predicates.proofs.Footers.MentionLoop.{mentions_go, mentions_done}
use Rattle.vortex_predicates.proofs.parquet.mentions.add_operands.Goals as goal

pub loop-operand-preserved : goal.loop-operand-preserved
loop-operand-preserved c = mentions_go c.args.leaf.now c.args.operands.now _ _ _ c.loop-operand.operand-index c.operand-item.result c.loop-operand-test.true c.operand-item.is c.in_ok-add_operand.ensures c.loop-operand.invariant

pub returns : goal.returns
returns c = mentions_done c.args.leaf.now c.args.operands.now _ _ c.loop-operand.operand-index c.loop-operand-test.false c.loop-operand.invariant
