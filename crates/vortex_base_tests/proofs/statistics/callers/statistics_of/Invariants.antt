use Rattle.std.proofs.Common.{◌≡◌, ◌++◌}
use Rattle.std.specs.Prelude.{map}
use Rattle.vortex_base_tests.proofs.statistics.callers.statistics_of.Given as goal

-- the statistics so far, and those of the entries that are left
abbrev pub invariant-loop-entry : goal.invariant-loop-entry
invariant-loop-entry l = l.stats.items ++ map (λ e. e.0) l.entry-iterator ≡ map (λ e. e.0) l.fn.set
