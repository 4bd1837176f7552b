use Rattle.std.proofs.Common.{◌≡◌, ◌++◌}
use Rattle.vortex_base_tests.proofs.statistics.callers.entries_of.Given as goal

-- the entries so far, and those that are left
abbrev pub invariant-loop-entry : goal.invariant-loop-entry
invariant-loop-entry l = l.entries.items ++ l.entry-iterator ≡ l.fn.set
