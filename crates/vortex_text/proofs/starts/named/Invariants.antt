use Rattle.std.proofs.Common.{◌≡◌, take}
use Rattle.vortex_base.specs.Data.Scopes.{named_columns}
use Rattle.vortex_text.proofs.starts.named.Given as goal

-- the columns so far
abbrev pub invariant-loop-column : goal.invariant-loop-column
invariant-loop-column l = named_columns l.named.items ≡ named_columns (take l.column-index l.columns)
