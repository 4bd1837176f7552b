use Rattle.std.proofs.Common.{◌∙◌}
use Rattle.std.proofs.lemmas.List.{length-map}
use Rattle.vortex_base.specs.Data.Scopes.{is_named, named}
use Rattle.vortex_base.proofs.Data.MapLemmas.{position-map}
use Rattle.vortex_base.proofs.scope.Scope.find.Goals as goal

pub returns-clause-value : goal.returns-clause-value
returns-clause-value c = rw (← (c.columns.ensures ∙ c.self.view_is), position-map (is_named c.args.name.now) named c.columns.result.now) c.place_of.ensures.value

pub returns-clause-in_range : goal.returns-clause-in_range
returns-clause-in_range c = rw (← (c.columns.ensures ∙ c.self.view_is), length-map c.columns.result.now named) c.place_of.ensures.in_range
