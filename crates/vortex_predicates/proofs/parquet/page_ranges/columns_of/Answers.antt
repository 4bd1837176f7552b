use Rattle.vortex_predicates.proofs.Footers.RangeLoops.{columns_done, columns_go}
use Rattle.vortex_predicates.proofs.parquet.page_ranges.columns_of.Goals as goal

pub loop-leaf-preserved : goal.loop-leaf-preserved
loop-leaf-preserved c = rw c.in_ok-push.ensures.items (columns_go c.args.leaves.now c.loop-leaf.columns.items c.loop-leaf.leaf-index c.leaf-item.result c.column_of.result c.loop-leaf-test.true c.leaf-item.is c.column_of.ensures c.loop-leaf.invariant)

pub returns : goal.returns
returns c = columns_done c.args.leaves.now c.loop-leaf.columns.items c.loop-leaf.leaf-index c.loop-leaf-test.false c.loop-leaf.invariant
