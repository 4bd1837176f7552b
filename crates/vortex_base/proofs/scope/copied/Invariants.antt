use Rattle.std.proofs.Common.{◌≡◌, take}
use Rattle.vortex_base.specs.Data.Scopes.{named_columns}
use Rattle.vortex_base.proofs.scope.copied.Given as goal

-- the columns so far
abbrev pub invariant-loop-column : goal.invariant-loop-column
invariant-loop-column l = named_columns l.copy.items ≡ named_columns (take l.column-index l.column-items)
