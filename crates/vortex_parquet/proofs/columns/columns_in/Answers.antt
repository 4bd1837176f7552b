use Rattle.std.proofs.Common.{map, arith}
use Rattle.std.proofs.lemmas.Result.{err_from_is_err_and}
use Rattle.vortex_parquet.specs.Columns.{column_views, columns_in}
use Rattle.vortex_parquet.specs.Records.{element_view}
use Rattle.vortex_parquet.proofs.ColumnLoop.{columns_go, columns_fail, columns_done}
use Rattle.vortex_parquet.proofs.columns.columns_in.Goals as goal

pub returns-in_err-after : goal.returns-in_err-after
returns-in_err-after c =
    let p = err_from_is_err_and c.from_residual.result c.from_residual.ensures.1 in
    rw (p.1, p.2) (columns_fail c.in_err-after.field-0.0 c.args.elements.now (column_views c.loop-place.columns.columns.items) c.loop-place.inside c.loop-place.columns.leaves c.loop-place.place _ (columns_in 0 0 (map element_view c.args.elements.now)) c.loop-place-test.true c.in_err-after.ensures c.loop-place.invariant.so_far)

pub loop-place-preserved : goal.loop-place-preserved
loop-place-preserved c = record {
  few = omega (arith, c.in_ok-add.ensures.few, c.loop-place.invariant.few);
  so_far = rw (c.in_ok-add.ensures.columns, c.in_ok-add.ensures.leaves) (columns_go c.args.elements.now (column_views c.loop-place.columns.columns.items) c.loop-place.inside c.loop-place.columns.leaves c.loop-place.place c.in_ok-after.after _ (columns_in 0 0 (map element_view c.args.elements.now)) c.loop-place-test.true c.in_ok-after.ensures c.loop-place.invariant.so_far);
}

pub returns : goal.returns
returns c = columns_done c.args.elements.now (column_views c.loop-place.columns.columns.items) c.loop-place.inside c.loop-place.columns.leaves c.loop-place.place (columns_in 0 0 (map element_view c.args.elements.now)) c.loop-place-test.false c.loop-place.invariant.so_far
