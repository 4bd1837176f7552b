use Rattle.std.proofs.Common.{◌≡◌, vec_len}
use Rattle.vortex_sql.specs.Halves as spec
use Rattle.vortex_sql.proofs.halves.joined.Given as goal

-- what is left makes up the same expression
abbrev pub invariant-turns : goal.invariant-turns
invariant-turns l = spec.joined l.left.items ≡ spec.joined l.fn.items.items

abbrev pub decreases-turns : goal.decreases-turns
decreases-turns l = vec_len l.left
