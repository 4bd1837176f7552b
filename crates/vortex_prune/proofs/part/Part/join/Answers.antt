use Rattle.std.proofs.Common.{sym, ◌∙◌}
use Rattle.vortex_prune.proofs.Scanning.JoinLemmas.{truth_of_join}
use Rattle.vortex_prune.specs.contracts.part.Part.{the_view}
use Rattle.vortex_prune.proofs.part.Part.join.Goals as goal

pub returns-clause-truth : goal.returns-clause-truth
returns-clause-truth c =
    truth_of_join (the_view c.left.inside) (the_view c.right.inside) _ _ _ c.left.view_is c.right.view_is c.left.invariant c.right.invariant c.requires
    (sym c.sizes_fit.ensures ∙ c.if-not-sizes_fit.false) c.append.ensures.joined
