use Rattle.std.proofs.Common.{◌∙◌}
use Rattle.vortex_base.specs.Data.Types.{dtype_eq}
use Rattle.vortex_base.specs.Data.Scopes.{Named, named}
use Rattle.vortex_base.specs.Data.Columns.{ColumnData}
use Rattle.vortex_base.proofs.Data.MapLemmas.{list_all-zip}
use Rattle.vortex_base.proofs.scope.has_types.Goals as goal

pub returns-then-names-columns : goal.returns-then-names-columns
returns-then-names-columns c =
    c.pairs_fit.ensures ∙ list_all-zip (λ (s : Named) (d : ColumnData). dtype_eq s.1 d.dtype) named c.args.names.now c.args.columns.now c.if-names-columns.true
