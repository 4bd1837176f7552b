use Rattle.std.proofs.Common.{◌+◌, ◌*◌, length}
use Rattle.vortex_syntax.specs.Words.{words}
use Rattle.vortex_syntax.proofs.expression.+expression.Given as goal

abbrev pub decreases-read_between : goal.decreases-read_between
decreases-read_between l = 2 * length (words l.line.now) + 1

abbrev pub decreases-read_binary : goal.decreases-read_binary
decreases-read_binary l = 2 * length (words l.line.now) + 1

abbrev pub decreases-read_expression : goal.decreases-read_expression
decreases-read_expression l = 2 * length (words l.line.now)

abbrev pub decreases-read_is_not_null : goal.decreases-read_is_not_null
decreases-read_is_not_null l = 2 * length (words l.line.now) + 1

abbrev pub decreases-read_is_null : goal.decreases-read_is_null
decreases-read_is_null l = 2 * length (words l.line.now) + 1

abbrev pub decreases-read_like : goal.decreases-read_like
decreases-read_like l = 2 * length (words l.line.now) + 1

abbrev pub decreases-read_not : goal.decreases-read_not
decreases-read_not l = 2 * length (words l.line.now) + 1
