use Rattle.std.proofs.Common.{get_or, refl, arith}
use Rattle.vortex_text.proofs.FirstRows.{row_one_more, taken_ends}
use Rattle.vortex_text.proofs.first_row.take_plain.Goals as goal

pub loop-column-preserved : goal.loop-column-preserved
loop-column-preserved c =
    let columns = c.loop-column.columns in
    let i = c.loop-column.column-index in
    let item = get_or columns i c.column-item.result in
    let took = c.in-Some.ensures.taken in
    let shorter = c.in-Some.ensures.shorter in
    record {
      row = row_one_more c.args.columns.now columns c.args.text.now c.loop-column.rest.now c.in-Some.after.now i item c.take_plain.new.self c.column-item.result (omega arith) refl took c.loop-column.invariant.row;
      count = omega arith;
      ends = taken_ends item c.take_plain.new.self c.loop-column.rest.now c.in-Some.after.now took;
      shorter = omega (arith, shorter);
    }
