use Rattle.vortex_prune.proofs.Honesty.PartLemmas.{stats_there}
use Rattle.vortex_prune.specs.contracts.part.Part.{the_view}
use Rattle.vortex_prune.proofs.part.Part.stats.Goals as goal

pub returns-clause-value : goal.returns-clause-value
returns-clause-value c =
    stats_there (the_view c.self.inside) _ c.args.i _ c.self.view_is c.self.invariant c.requires (rw c.as_slice-sets.ensures.value at c.index-sets-i.is)
