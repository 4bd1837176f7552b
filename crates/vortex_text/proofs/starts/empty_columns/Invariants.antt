use Rattle.std.proofs.Common.{◌≡◌, map, take}
use Rattle.vortex_base.specs.Data.Scopes.{named_columns}
use Rattle.vortex_text.specs.Rows.{empty_column}
use Rattle.vortex_text.proofs.starts.empty_columns.Given as goal

-- the columns so far
abbrev pub invariant-loop-column : goal.invariant-loop-column
invariant-loop-column l = l.empty.items ≡ map empty_column (named_columns (take l.column-index l.columns))
