use Rattle.std.proofs.Common.{map, ◌∙◌}
use Rattle.std.specs.Prelude.{option_map}
use Rattle.vortex_prune.proofs.Scanning.ColumnLemmas.{marked_by_no_comparison}
use Rattle.vortex_prune.proofs.scan.strings.keep_strings.Goals as goal

pub returns-in-And : goal.returns-in-And
returns-in-And g c =
    c.fill.ensures.after (λ y e. e)
    ∙ marked_by_no_comparison c.args.operator (g.S.Strings.scalar c.args.other.now) (map (option_map g.S.Strings.scalar) (g.S.Strings.strings c.args.strings.now)) c.args.from c.args.marks.now c.in-And.is
