use Rattle.std.proofs.Common.{ℕ, ◌+◌, ◌<◌, get_or}
use Rattle.vortex_prune.specs.Scanning.Gaps.{Follows}
use Rattle.vortex_prune.specs.declared.scan.gaps.Gap.{Gap}
use Rattle.vortex_prune.proofs.scan.gaps.are_ordered.Given as goal

-- each gap before this one follows the one before it
abbrev pub invariant-loop-k : goal.invariant-loop-k
invariant-loop-k l = (i : ℕ) (d : Gap) → i + 1 < l.k → Follows (get_or l.gaps i d) (get_or l.gaps (i + 1) d)
