use Rattle.std.proofs.Common.{Some, ap, sym, ◌∙◌}
use Rattle.vortex_base.specs.Data.ArrayData.{value_of}
use Rattle.vortex_expr.specs.Meanings.Meaning.{meaning}
use Rattle.vortex_prune.proofs.Scanning.LeafLemmas.{compares_swapped}
use Rattle.vortex_prune.specs.Scanning.Leaves.{compares, swapped}
use Rattle.vortex_prune.proofs.scan.sides.beside.Goals as goal

pub returns-in-Some-Some-2 : goal.returns-in-Some-Some-2
returns-in-Some-Some-2 c =
    let k = c.in-Some-Some-2 in
    let o = c.args.operator in
    record {
      told = λ row n.
          compares_swapped o (meaning c.args.left.now row n) (meaning c.args.right.now row n)
          ∙ ap (compares (swapped o) (meaning c.args.right.now row n)) (k.ensures row n)
          ∙ ap (λ p. compares p (meaning c.args.right.now row n) (Some (value_of k.value))) (sym c.swapped-operator.ensures);
      column = k.ensures';
    }
