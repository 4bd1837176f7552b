use Rattle.vortex_logical.proofs.WorkedRows.{floats, halves, meanings, points}
use Rattle.vortex_logical.proofs.laws.examples_hold.Goals as goal

pub returns : goal.returns
returns c = record {
  meanings = meanings;
  points = points;
  halves = halves;
  floats = floats;
}
