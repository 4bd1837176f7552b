use Rattle.std.proofs.Common.{[], Some, rules}
use Rattle.vortex_predicates.specs.Pruning.{IsMadeBy}
use Rattle.vortex_capi.specs.Scopes.{max_depth}
use Rattle.vortex_capi.proofs.AnswerLemmas.{made_closed}
use Rattle.vortex_capi.proofs.named.pruning_of.Goals as goal

pub returns-in-Ok-clause-closed : goal.returns-in-Ok-clause-closed
returns-in-Ok-clause-closed c =
    let made : IsMadeBy [] (Some max_depth) c.in-Ok.made = search rules in
    made_closed (Some max_depth) c.in-Ok.made made
