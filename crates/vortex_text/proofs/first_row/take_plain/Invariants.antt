use Rattle.std.proofs.Common.{◌≡◌, ◌≤◌, length}
use Rattle.vortex_syntax.specs.Plain.{EndsWord}
use Rattle.vortex_text.specs.FirstLines.{BeginsRow}
use Rattle.vortex_text.proofs.first_row.take_plain.Given as goal

-- the columns so far have their values
abbrev pub invariant-loop-column : goal.invariant-loop-column
invariant-loop-column l = record {
  row : BeginsRow l.fn.columns l.columns l.text l.rest l.column-index;
  count : l.count ≡ l.column-index;
  ends : EndsWord l.rest;
  shorter : length l.rest ≤ length l.text;
}
