use Rattle.std.proofs.Common.{◌∙◌}
use Rattle.vortex_syntax.proofs.PlaceLemmas.{place_in_range}
use Rattle.vortex_syntax.proofs.columns.Columns.place_of.Goals as goal

pub returns-clause-in_range : goal.returns-clause-in_range
returns-clause-in_range c = place_in_range c.args.name.now c.args.self.now c.copied.result (rw c.self.view_is at (c.copied.ensures ∙ c.get.ensures.value ∙ c.self.invariant.index c.args.name.now))
