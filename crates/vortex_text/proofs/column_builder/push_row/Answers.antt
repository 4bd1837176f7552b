use Rattle.std.proofs.Common.{get_or, refl, arith}
use Rattle.std.proofs.lemmas.Result.{err_from_is_err_and}
use Rattle.vortex_syntax.specs.Words.{words}
use Rattle.vortex_text.proofs.ColumnLemmas.{fails_on, row_ends, row_more, row_stops}
use Rattle.vortex_text.specs.Columns.{taken, with_values}
use Rattle.vortex_text.proofs.column_builder.push_row.Goals as goal

pub returns-in_err-rest : goal.returns-in_err-rest
returns-in_err-rest c =
    let columns = c.loop-column.columns in
    let i = c.loop-column.column-index in
    let line = words c.args.line.now in
    let item = get_or columns i c.column-item.result in
    let p = err_from_is_err_and c.from_residual.result c.from_residual.ensures.1 in
    rw (p.1, p.2) (fails_on _ (taken item (words c.loop-column.rest.now)) (with_values c.args.columns.now line)
    (λ none. row_stops columns c.args.columns.now i (words c.loop-column.rest.now) line item c.column-item.result (omega arith) refl none c.loop-column.invariant.same) c.in_err-rest.ensures)

pub loop-column-preserved : goal.loop-column-preserved
loop-column-preserved c =
    let columns = c.loop-column.columns in
    let i = c.loop-column.column-index in
    record {
      same = row_more columns c.args.columns.now i (words c.loop-column.rest.now) (words c.in_ok-rest.rest.now) (words c.args.line.now) (get_or columns i c.column-item.result) c.take.new.self c.column-item.result
          (omega arith) refl c.in_ok-rest.ensures c.loop-column.invariant.same;
    }

pub returns : goal.returns
returns c =
    row_ends c.loop-column.columns c.args.columns.now c.loop-column.column-index (words c.loop-column.rest.now) (words c.args.line.now) c.no_word.result (omega arith) c.no_word.ensures.word c.loop-column.invariant.same
