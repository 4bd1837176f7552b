use Rattle.std.proofs.Common.{◌+◌, ◌*◌}
use Rattle.vortex_prune.specs.Scanning.Gaps.{pairs}
use Rattle.vortex_prune.proofs.scan.marks.+keep.Given as goal

abbrev pub decreases-keep_either : goal.decreases-keep_either
decreases-keep_either l = 6 * (pairs l.left.now + pairs l.right.now) + 5

abbrev pub decreases-keep_any : goal.decreases-keep_any
decreases-keep_any l = 6 * (pairs l.left.now + pairs l.right.now) + 6

abbrev pub decreases-drop_any : goal.decreases-drop_any
decreases-drop_any l = 6 * (pairs l.left.now + pairs l.right.now) + 5

abbrev pub decreases-sift : goal.decreases-sift
decreases-sift l = 6 * pairs l.e.now + 4

abbrev pub decreases-drop_true : goal.decreases-drop_true
decreases-drop_true l = 6 * pairs l.e.now + 3

abbrev pub decreases-keep_true : goal.decreases-keep_true
decreases-keep_true l = 6 * pairs l.e.now + 2

abbrev pub decreases-gather : goal.decreases-gather
decreases-gather l = 6 * pairs l.e.now + 1
