use Rattle.vortex_expr.specs.Patterns.Like.{items}
use Rattle.vortex_expr.specs.Patterns.LikeSearch.{characters}
use Rattle.vortex_expr.proofs.Patterns.ChanceLemmas.{from_first_run}
use Rattle.vortex_expr.proofs.like.chance.from_chance.Goals as goal

pub returns-clause-same : goal.returns-clause-same
returns-clause-same c =
    (from_first_run (items (characters c.args.pattern)) c.args.text.ignore_case c.args.text.text.now c.beginning-run.result.now c.from_run.result.now c.from_run.ensures c.beginning-run.ensures).0

pub returns-clause-shorter : goal.returns-clause-shorter
returns-clause-shorter c =
    (from_first_run (items (characters c.args.pattern)) c.args.text.ignore_case c.args.text.text.now c.beginning-run.result.now c.from_run.result.now c.from_run.ensures c.beginning-run.ensures).1
