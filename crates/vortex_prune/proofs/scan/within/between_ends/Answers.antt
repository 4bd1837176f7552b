use Rattle.std.proofs.lemmas.Option.{IfSome_then}
use Rattle.vortex_prune.proofs.Scanning.LeafLemmas.{between_literals}
use Rattle.vortex_prune.proofs.scan.within.between_ends.Goals as goal

pub returns : goal.returns
returns c =
    IfSome_then c.ends_of.result c.ends_of.ensures
    (λ ends both. between_literals c.args.chunk.now.columns c.args.e.now c.args.x.now c.args.lower.now c.args.upper.now c.args.options c.to_operator.result c.to_operator-2.result
    c.in_ok-low.low c.in_ok-high.high ends c.requires c.to_operator.ensures c.to_operator-2.ensures c.in_ok-low.ensures c.in_ok-high.ensures both)
