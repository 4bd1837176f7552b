use Rattle.vortex_parquet.proofs.MeaningRows.{meanings}
use Rattle.vortex_parquet.proofs.WorkedRows.{bounds, columns, grammar, sizes, table}
use Rattle.vortex_parquet.proofs.laws.examples_hold.Goals as goal

pub returns : goal.returns
returns c = record {
  grammar = grammar;
  table = table;
  meanings = meanings;
  bounds = bounds;
  sizes = sizes;
  columns = columns;
}
