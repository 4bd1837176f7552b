use Rattle.std.proofs.Common.{◌∙◌}
use Rattle.std.proofs.Math.Bool.{or_comm}
use Rattle.std.specs.BTreeSet.{contains}
use Rattle.std.specs.Ordering.{nat_cmp}
use Rattle.vortex_predicates.proofs.complete.joined.Goals as goal

pub returns-in_ok-append : goal.returns-in_ok-append
returns-in_ok-append c i = c.in_ok-append.ensures.inserts_all.0 i ∙ or_comm (contains nat_cmp c.args.right i) (contains nat_cmp c.args.left i)
