use Rattle.std.proofs.Common.{◌≡◌, ◌<◌, length, vec_len}
use Rattle.vortex_expr.specs.Trees.Connectives.{is_and}
use Rattle.vortex_capi.specs.Nesting.Halves as spec
use Rattle.vortex_capi.proofs.nested.joining.joined.Given as goal

-- what is left makes up the same expression
abbrev pub invariant-turns : goal.invariant-turns
invariant-turns l = record {
  whole : spec.joined (is_and l.connective) l.left.items ≡ spec.joined (is_and l.connective) l.fn.items.items;
  some : 0 < length l.left.items;
}

abbrev pub decreases-turns : goal.decreases-turns
decreases-turns l = vec_len l.left
