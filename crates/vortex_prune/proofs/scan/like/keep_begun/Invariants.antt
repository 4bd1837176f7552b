use Rattle.std.proofs.Common.{◌≡◌, ◌++◌, drop, take}
use Rattle.std.specs.Str.{chars}
use Rattle.vortex_prune.specs.Scanning.Likes.{letters, passes_items_at}
use Rattle.vortex_prune.specs.Scanning.Marks.{marked}
use Rattle.vortex_prune.proofs.scan.like.keep_begun.Given as goal

-- the marks before this one were looked at
abbrev pub invariant-loop-k : goal.invariant-loop-k
invariant-loop-k g l = l.marks ≡ marked (passes_items_at l.negated (letters (chars l.front) ++ g.T.Tail.items l.tail) l.texts) l.from (take l.k l.initial.marks) ++ drop l.k l.initial.marks
