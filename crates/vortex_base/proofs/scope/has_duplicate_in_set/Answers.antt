-- The set has the names of the columns so far.
use Rattle.std.proofs.Common.{◌<◌, ap, arith, length}
use Rattle.vortex_base.proofs.Data.NameSets.{has_one_more, is_repeated, stays_distinct}
use Rattle.vortex_base.proofs.scope.has_duplicate_in_set.Goals as goal

pub loop-column-preserved : goal.loop-column-preserved
loop-column-preserved c =
    let s = c.loop-column in
    let inside : s.column-index < length c.args.columns.now.items = omega (arith, c.loop-column-test.true, ap length c.deref-column-items.ensures.value) in
    let item = rw c.deref-column-items.ensures.value at c.column-item.is in
    record {
      seen = has_one_more s.names c.insert.new.self c.as_str.result c.args.columns.now.items s.column-index c.column-item.result inside item c.as_str.ensures.value c.in_ok-insert.ensures.updates s.invariant.seen;
      distinct = stays_distinct s.names c.as_str.result c.args.columns.now.items s.column-index c.column-item.result c.in_ok-insert.field-0 inside item c.as_str.ensures.value s.invariant.seen s.invariant.distinct c.in_ok-insert.ensures.added c.if-not-branch.false;
    }

pub returns-then-not-branch : goal.returns-then-not-branch
returns-then-not-branch c =
    let s = c.loop-column in
    let inside : s.column-index < length c.args.columns.now.items = omega (arith, c.loop-column-test.true, ap length c.deref-column-items.ensures.value) in
    let item = rw c.deref-column-items.ensures.value at c.column-item.is in
    is_repeated s.names c.as_str.result c.args.columns.now.items s.column-index c.column-item.result c.in_ok-insert.field-0 inside item c.as_str.ensures.value s.invariant.seen c.in_ok-insert.ensures.added c.if-not-branch.true
