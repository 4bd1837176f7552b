use Rattle.std.proofs.Common.{IsOk, subst₂, sym}
use Rattle.vortex_expr.specs.Meanings.Typing.{type_of}
use Rattle.vortex_expr.specs.Trees.Tree.{Place, Tree, binary}
use Rattle.vortex_normal.proofs.Folded.{folded_fits}
use Rattle.vortex_normal.proofs.leaves.comparison.Goals as goal

pub comparison_of-requires : goal.comparison_of-requires
comparison_of-requires c =
    subst₂ (λ (x y : Tree Place). IsOk (type_of (binary c.args.operator x y))) (sym c.in_ok-left.ensures) (sym c.in_ok-right.ensures)
    (folded_fits c.args.operator c.args.left.now c.args.right.now c.requires)
