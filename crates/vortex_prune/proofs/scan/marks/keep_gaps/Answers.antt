use Rattle.std.proofs.Common.{◌∙◌}
use Rattle.vortex_prune.proofs.Scanning.GapLemmas.{alike_moved, alike_sure, marked_by_columns, marked_no_gaps}
use Rattle.vortex_prune.proofs.scan.marks.keep_gaps.Goals as goal

pub keep_ordered-requires-clause-sure : goal.keep_ordered-requires-clause-sure
keep_ordered-requires-clause-sure c =
    let cs = c.args.table.chunk.now.columns in
    alike_sure cs c.put_in_order-in_order.new.gaps (alike_moved cs c.args.gaps.now c.put_in_order-in_order.new.gaps c.put_in_order-in_order.ensures.same c.requires.alike)

pub keep_passed-requires-clause-sure : goal.keep_passed-requires-clause-sure
keep_passed-requires-clause-sure c =
    let cs = c.args.table.chunk.now.columns in
    alike_sure cs c.put_in_order-in_order.new.gaps (alike_moved cs c.args.gaps.now c.put_in_order-in_order.new.gaps c.put_in_order-in_order.ensures.same c.requires.alike)

pub returns-then-in_order : goal.returns-then-in_order
returns-then-in_order c =
    let l = c.in-Some.ensures.lookup in
    let cs = c.args.table.chunk.now.columns in
    let old = c.args.gaps.now in
    let gs = c.put_in_order-in_order.new.gaps in
    let a = c.asked-asked.result in
    c.keep_ordered.ensures
    ∙ marked_by_columns cs c.args.table.counts old gs c.in-Some.first.now a.above.now a.below.now a.flag.now c.args.from c.args.marks.now
    (alike_moved cs old gs c.put_in_order-in_order.ensures.same c.requires.alike) c.put_in_order-in_order.ensures.same l.3.0 l.3.1 c.asked-asked.ensures.above c.asked-asked.ensures.below c.asked-asked.ensures.flag

pub returns-else-in_order : goal.returns-else-in_order
returns-else-in_order c =
    let l = c.in-Some.ensures.lookup in
    let cs = c.args.table.chunk.now.columns in
    let old = c.args.gaps.now in
    let gs = c.put_in_order-in_order.new.gaps in
    let a = c.asked-asked.result in
    c.keep_passed.ensures
    ∙ marked_by_columns cs c.args.table.counts old gs c.in-Some.first.now a.above.now a.below.now a.flag.now c.args.from c.args.marks.now
    (alike_moved cs old gs c.put_in_order-in_order.ensures.same c.requires.alike) c.put_in_order-in_order.ensures.same l.3.0 l.3.1 c.asked-asked.ensures.above c.asked-asked.ensures.below c.asked-asked.ensures.flag

pub returns-in_default : goal.returns-in_default
returns-in_default c =
    marked_no_gaps c.args.table.chunk.now.columns c.args.table.counts c.args.gaps.now c.put_in_order-in_order.new.gaps c.args.from c.args.marks.now c.put_in_order-in_order.ensures.same c.in_default.ensures.lookup.3
