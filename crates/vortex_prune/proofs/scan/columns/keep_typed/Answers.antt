use Rattle.std.proofs.Common.{ap, sym, ◌∙◌}
use Rattle.vortex_prune.proofs.Scanning.ColumnLemmas.{marked_nulls, marked_there}
use Rattle.vortex_prune.specs.Scanning.Leaves.{passes_at}
use Rattle.vortex_prune.specs.Scanning.Marks.{marked}
use Rattle.vortex_prune.proofs.scan.columns.keep_typed.Goals as goal

pub returns-in-Null : goal.returns-in-Null
returns-in-Null g c =
    let vs = c.args.column.now.values in
    c.keep_unset.ensures
    ∙ marked_nulls g.T.Native.scalar c.as_slices.result.0.now c.as_slices.result.1.now c.args.natives.now vs c.args.from c.args.marks.now c.requires.same c.as_slices.ensures.values c.as_slices.ensures.long
    ∙ ap (λ t. marked (passes_at t vs) c.args.from c.args.marks.now) (sym c.in-Null.is)

pub returns-in-NotNull : goal.returns-in-NotNull
returns-in-NotNull g c =
    let vs = c.args.column.now.values in
    c.keep_set.ensures
    ∙ marked_there g.T.Native.scalar c.as_slices.result.0.now c.as_slices.result.1.now c.args.natives.now vs c.args.from c.args.marks.now c.requires.same c.as_slices.ensures.values c.as_slices.ensures.long
    ∙ ap (λ t. marked (passes_at t vs) c.args.from c.args.marks.now) (sym c.in-NotNull.is)
