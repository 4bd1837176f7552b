use Rattle.std.proofs.Common.{ap, ◌∙◌}
use Rattle.std.specs.Prelude.{option_map}
use Rattle.vortex_base.specs.Data.Scopes.{Named}
use Rattle.vortex_base.proofs.Data.ScopeLemmas.{column_at}
use Rattle.vortex_base.proofs.scope.Scope.dtype.Goals as goal

pub returns : goal.returns
returns c =
    let type_of = λ (named : Named). named.1 in
    let same = c.columns.ensures ∙ c.self.view_is in
    rw (← same) (ap (option_map type_of) (column_at c.columns.result.now c.args.i c.index-columns-i.result (rw (← same) at c.requires) c.index-columns-i.is))
