use Rattle.std.proofs.Common.{◌≡◌, ◌++◌, drop, take}
use Rattle.vortex_prune.specs.Scanning.Likes.{is_liked_at}
use Rattle.vortex_prune.specs.Scanning.Marks.{marked}
use Rattle.vortex_prune.proofs.scan.like.keep_liked.Given as goal

-- the marks before this one were looked at
abbrev pub invariant-loop-k : goal.invariant-loop-k
invariant-loop-k l = l.marks ≡ marked (is_liked_at l.options l.pattern l.texts) l.from (take l.k l.initial.marks) ++ drop l.k l.initial.marks
