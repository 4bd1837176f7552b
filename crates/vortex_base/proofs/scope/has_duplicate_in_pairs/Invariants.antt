use Rattle.std.proofs.Common.{◌≡◌, length}
use Rattle.vortex_base.specs.Data.Scopes.{named_columns, has_duplicate}
use Rattle.vortex_base.proofs.scope.has_duplicate_in_pairs.Given as goal

abbrev pub invariant-columns : goal.invariant-columns
invariant-columns l = has_duplicate (named_columns l.rest) ≡ has_duplicate (named_columns l.fn.columns)

abbrev pub decreases-columns : goal.decreases-columns
decreases-columns l = length l.rest
