use Rattle.std.proofs.Common.{◌≡◌}
use Rattle.std.specs.List.{list_all}
use Rattle.vortex_stats.specs.Measuring.Checks.{allows}
use Rattle.vortex_stats.proofs.measure.measures.Measures.allows_each.Given as goal

-- what is left decides
abbrev pub invariant-loop-entry : goal.invariant-loop-entry
invariant-loop-entry l = list_all (λ e. allows e.0 e.1 l.column) l.entry-iterator ≡ list_all (λ e. allows e.0 e.1 l.column) l.set
