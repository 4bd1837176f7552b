use Rattle.std.proofs.Common.{ap₂, ◌∙◌}
use Rattle.vortex_base.specs.Data.ArrayData.{cell_values}
use Rattle.vortex_base.specs.Data.Columns.{all_fit}
use Rattle.vortex_capi.proofs.BatchLemmas.{made_of, nulls_fit, nulls_there}
use Rattle.vortex_capi.proofs.batches.Batch.null_column.Goals as goal

pub new_unchecked-requires : goal.new_unchecked-requires
new_unchecked-requires c =
    let n = c.args.self.now.count in
    let nulls = nulls_there n (cell_values c.null_cells.result) c.null_cells.ensures in
    ap₂ all_fit c.dtype.ensures nulls ∙ nulls_fit c.args.self.now.scope.now c.args.head.now c.requires n

pub returns : goal.returns
returns c = c.new_unchecked.ensures ∙ ap₂ made_of c.dtype.ensures (nulls_there c.args.self.now.count (cell_values c.null_cells.result) c.null_cells.ensures)
