use Rattle.std.proofs.Common.{◌∙◌, ap}
use Rattle.vortex_parquet.specs.Columns.{column_view, with_column}
use Rattle.vortex_parquet.proofs.Lookup.{lookup_goes, lookup_done}
use Rattle.vortex_parquet.proofs.columns.lookup.Goals as goal

pub loop-column-preserved : goal.loop-column-preserved
loop-column-preserved c = c.with_column-found.ensures ∙ ap (λ x. with_column c.args.name.now c.loop-column.found (column_view x)) c.column-item.is ∙ lookup_goes c.args.name.now c.args.columns.now c.loop-column.column-index c.column-item.result c.loop-column.found c.loop-column-test.true c.loop-column.invariant

pub returns : goal.returns
returns c = lookup_done c.args.name.now c.args.columns.now c.loop-column.column-index c.loop-column.found c.loop-column-test.false c.loop-column.invariant
