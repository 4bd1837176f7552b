use Rattle.std.proofs.Common.{sym, ◌∙◌}
use Rattle.vortex_rewrite.proofs.Rewriting.ProofTypes.{extremes_compare}
use Rattle.vortex_rewrite.proofs.rewrite.builtins.comparison.compared.Goals as goal

pub binary-requires : goal.binary-requires
binary-requires c =
    extremes_compare c.args.operator c.args.left.0 c.args.right.0 c.args.left.1.now c.args.right.1.now c.in-Some-Some.low c.in-Some-Some.high
    c.requires.comparison c.requires.left_extreme c.requires.right_extreme c.requires.comparable
    (sym c.in-Some-Some.is-0 ∙ c.in_ok-low.ensures) (sym c.in-Some-Some.is-1 ∙ c.in_ok-high.ensures)
