use Rattle.vortex_prune.proofs.Scanning.JoinLemmas.{seen_is_part}
use Rattle.vortex_prune.specs.contracts.part.Part.{the_view}
use Rattle.vortex_prune.proofs.part.join.append.Goals as goal

pub invariant_of-result : goal.invariant_of-result
invariant_of-result c =
    seen_is_part (the_view c.left.inside) (the_view c.right.inside) _ _ _ _ c.left.view_is c.right.view_is c.left.invariant c.right.invariant c.requires.scope c.requires.sizes c.in-Ok.ensures.appended c.requires.stats
