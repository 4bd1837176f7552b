use Rattle.std.proofs.Common.{ap, ◌∙◌}
use Rattle.vortex_base.specs.Data.ArrayData.{cell_values}
use Rattle.vortex_base.specs.Data.Columns.{all_fit}
use Rattle.vortex_capi.proofs.BatchLemmas.{cells_fit, column_of_head}
use Rattle.vortex_capi.proofs.batches.Batch.column.Goals as goal

pub new_unchecked-requires : goal.new_unchecked-requires
new_unchecked-requires c =
    let cells = cell_values c.in_ok-cells.cells in
    ap (λ t. all_fit t cells) c.dtype.ensures ∙ cells_fit c.args.self.now c.requires.batch c.args.head.now c.requires.tells cells c.in_ok-cells.ensures

pub returns : goal.returns
returns c = λ zones found. column_of_head c.args.self.now c.requires.batch c.args.head.now c.requires.tells (cell_values c.in_ok-cells.cells) c.in_ok-cells.ensures c.new_unchecked.result c.dtype.result c.new_unchecked.ensures c.dtype.ensures zones found
