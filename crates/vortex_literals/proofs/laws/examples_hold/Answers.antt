use Rattle.vortex_literals.proofs.WorkedRows.{dates, instants, intervals, numbers, times, timestamps}
use Rattle.vortex_literals.proofs.laws.examples_hold.Goals as goal

pub returns : goal.returns
returns c = record {
  dates = dates;
  timestamps = timestamps;
  instants = instants;
  times = times;
  numbers = numbers;
  intervals = intervals;
}
