use Rattle.vortex_sql.proofs.WorkedRows.{float_cells, float_readings, leaf_names, orders, other_readings, patterns, readings, text_readings, truths, typed_readings, typed_truths}
use Rattle.vortex_sql.proofs.laws.examples_hold.Goals as goal

pub returns : goal.returns
returns c = record {
  readings = readings;
  others = other_readings;
  orders = orders;
  patterns = patterns;
  truths = truths;
  typed = typed_readings;
  typed_texts = text_readings;
  typed_truths = typed_truths;
  names = leaf_names;
  floats = float_readings;
  float_cells = float_cells;
}
