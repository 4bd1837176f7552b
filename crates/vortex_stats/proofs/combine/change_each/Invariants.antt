use Rattle.std.proofs.Common.{◌≡◌}
use Rattle.vortex_stats.specs.Sets.Changes.{changed_by}
use Rattle.vortex_stats.proofs.combine.change_each.Given as goal

-- making what is left comes to the same
abbrev pub invariant-loop-change : goal.invariant-loop-change
invariant-loop-change l = changed_by l.change-iterator l.set ≡ changed_by l.fn.changes.items l.fn.set
