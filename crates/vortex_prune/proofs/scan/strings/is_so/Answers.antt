use Rattle.std.proofs.Common.{ap, sym, ◌∙◌}
use Rattle.vortex_prune.proofs.Scanning.ColumnLemmas.{holds_if, so_lent}
use Rattle.vortex_prune.proofs.scan.strings.is_so.Goals as goal

pub returns-in-Some : goal.returns-in-Some
returns-in-Some g c =
    let o = g.C.Comparison.operator in
    c.is_true_of.ensures ∙ sym (so_lent g.S.Strings.scalar o (g.S.Strings.scalar c.args.other.now) (g.S.Strings.strings c.args.strings.now) c.args.place c.order.result c.order.ensures ∙ ap (holds_if o) c.in-Some.is)

pub returns-in-None : goal.returns-in-None
returns-in-None g c =
    let o = g.C.Comparison.operator in
    sym (so_lent g.S.Strings.scalar o (g.S.Strings.scalar c.args.other.now) (g.S.Strings.strings c.args.strings.now) c.args.place c.order.result c.order.ensures ∙ ap (holds_if o) c.in-None.is)
