use Rattle.std.proofs.Common.{◌-◌}
use Rattle.vortex_text.proofs.QueryLemmas.{IsReached}
use Rattle.vortex_text.proofs.query.scan_query.Given as goal

-- the parts in front are scanned, then come those that are left
abbrev pub invariant-loop-before : goal.invariant-loop-before
invariant-loop-before l = IsReached l.fn.query.predicate l.fn.query.parts l.before l.found l.left

abbrev pub decreases-loop-before : goal.decreases-loop-before
decreases-loop-before l = l.count - l.before
