use Rattle.std.proofs.Common.{◌≡◌}
use Rattle.vortex_text.proofs.column_builder.close_columns.Given as goal

-- the columns so far
abbrev pub invariant-loop-column : goal.invariant-loop-column
invariant-loop-column l = l.closed.items ≡ l.yielded
