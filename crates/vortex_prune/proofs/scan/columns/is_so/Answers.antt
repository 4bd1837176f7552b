use Rattle.std.proofs.Common.{ap, false, sym, ◌∙◌}
use Rattle.std.specs.Prelude.{◌&&◌, slice_index_or}
use Rattle.vortex_base.specs.Data.Values.{value_cmp}
use Rattle.vortex_expr.specs.Meanings.Meaning.{holds}
use Rattle.vortex_prune.proofs.Scanning.ColumnLemmas.{so_there}
use Rattle.vortex_prune.proofs.scan.columns.is_so.Goals as goal

pub returns : goal.returns
returns g c =
    let o = g.C.Comparison.operator in
    let m = g.T.Native.scalar c.args.number in
    ap (λ b. slice_index_or c.args.validity.now c.args.place false && b) (c.is_true_of.ensures ∙ ap (holds o) c.order.ensures ∙ ap (λ x. holds o (value_cmp (g.T.Native.scalar x) m)) c.index-values-place.is)
    ∙ sym (so_there g.T.Native.scalar o m c.args.values.now c.args.validity.now c.args.place c.index-values-place.result false c.requires.long c.requires.within)
