use Rattle.std.proofs.Common.{map, ◌∙◌}
use Rattle.std.specs.Prelude.{option_map}
use Rattle.vortex_base.specs.Data.PrimitiveArray.{optionals}
use Rattle.vortex_prune.proofs.Scanning.ColumnLemmas.{marked_by_no_comparison}
use Rattle.vortex_prune.proofs.scan.columns.keep_natives.Goals as goal

pub returns-in-And : goal.returns-in-And
returns-in-And g c =
    c.fill.ensures.after (λ y e. e)
    ∙ marked_by_no_comparison c.args.operator (g.T.Native.scalar c.args.number) (map (option_map g.T.Native.scalar) (optionals c.args.values.now c.args.validity.now)) c.args.from c.args.marks.now c.in-And.is
