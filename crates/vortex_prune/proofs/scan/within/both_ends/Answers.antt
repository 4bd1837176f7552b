use Rattle.std.proofs.lemmas.Option.{IfSome_then}
use Rattle.vortex_prune.proofs.Scanning.LeafLemmas.{between_and, between_turned}
use Rattle.vortex_prune.proofs.scan.within.both_ends.Goals as goal

pub returns-then-is_rising : goal.returns-then-is_rising
returns-then-is_rising c =
    IfSome_then c.ends_of.result c.ends_of.ensures
    (λ ends both. between_and c.args.chunk.now.columns c.args.e.now c.args.left.now c.args.right.now c.in_ok-first.first c.in_ok-second.second ends c.requires c.in_ok-first.ensures c.in_ok-second.ensures both)

pub returns-else-is_rising : goal.returns-else-is_rising
returns-else-is_rising c =
    IfSome_then c.ends_of-else-is_rising.result c.ends_of-else-is_rising.ensures
    (λ ends both. between_turned c.args.chunk.now.columns c.args.e.now c.args.left.now c.args.right.now c.in_ok-first.first c.in_ok-second.second ends c.requires c.in_ok-first.ensures c.in_ok-second.ensures both)
