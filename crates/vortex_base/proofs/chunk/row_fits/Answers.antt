use Rattle.std.proofs.Common.{Option, ◌∙◌}
use Rattle.vortex_base.proofs.Data.MapLemmas.{list_all-pairs}
use Rattle.vortex_base.specs.Data.Columns.{ColumnData}
use Rattle.vortex_base.specs.Data.Scalars.{is_optional_value}
use Rattle.vortex_base.specs.declared.scalar_value.ScalarValue.{ScalarValue}
use Rattle.vortex_base.proofs.chunk.row_fits.Goals as goal

pub returns-then-columns-values : goal.returns-then-columns-values
returns-then-columns-values c =
    c.pairs_fit.ensures ∙ list_all-pairs (λ (d : ColumnData) (v : Option ScalarValue). is_optional_value v d.dtype) c.args.columns.now c.args.values.now c.if-columns-values.true
