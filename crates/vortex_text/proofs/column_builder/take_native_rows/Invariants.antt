use Rattle.std.proofs.Common.{◌≤◌, ◌+◌, ◌∷◌, [], length, map, option_map}
use Rattle.vortex_text.specs.FirstLines.{TakesRows, first_row, open_column}
use Rattle.vortex_text.proofs.column_builder.take_native_rows.Given as goal

-- the column has the values of the rows so far
abbrev pub invariant-loop-cell : goal.invariant-loop-cell
invariant-loop-cell g l = record {
  rows : TakesRows first_row l.count (open_column l.dtype (map (option_map g.T.Native.scalar) l.initial.natives) ∷ []) l.text (open_column l.dtype (map (option_map g.T.Native.scalar) l.natives) ∷ []) l.rest;
  bytes : l.count + length l.rest ≤ length l.text;
}

abbrev pub decreases-loop-cell : goal.decreases-loop-cell
decreases-loop-cell g l = length l.rest
