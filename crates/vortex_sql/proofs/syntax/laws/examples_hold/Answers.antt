use Rattle.vortex_sql.proofs.Parsing.WorkedRows.{named, names, neighbours}
use Rattle.vortex_sql.proofs.syntax.laws.examples_hold.Goals as goal

pub returns : goal.returns
returns c = record {
  names = names;
  neighbours = neighbours;
  named = named;
}
