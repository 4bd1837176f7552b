use Rattle.std.proofs.Common.{◌≡◌, drop, take}
use Rattle.vortex_syntax.specs.Words.{words}
use Rattle.vortex_text.specs.Columns.{behind, with_values}
use Rattle.vortex_text.proofs.column_builder.push_row.Given as goal

-- the columns so far have their values, and those to come take the words that are left
abbrev pub invariant-loop-column : goal.invariant-loop-column
invariant-loop-column l = record {
  same : behind (take l.column-index l.columns) (with_values (drop l.column-index l.columns) (words l.rest)) ≡ with_values l.fn.columns (words l.line);
}
