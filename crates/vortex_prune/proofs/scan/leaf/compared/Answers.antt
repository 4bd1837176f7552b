use Rattle.std.proofs.Common.{Some, ap, sym, ◌∙◌}
use Rattle.std.specs.Prelude.{slice_get}
use Rattle.vortex_base.specs.Data.ArrayData.{value_of}
use Rattle.vortex_base.specs.Data.Columns.{row_of, value_at}
use Rattle.vortex_expr.specs.Meanings.Meaning.{meaning}
use Rattle.vortex_prune.proofs.Scanning.LeafLemmas.{compares_swapped}
use Rattle.vortex_prune.specs.Scanning.Leaves.{compares, swapped}
use Rattle.vortex_prune.proofs.scan.leaf.compared.Goals as goal

pub returns-in-Some-Some-2 : goal.returns-in-Some-Some-2
returns-in-Some-Some-2 c r n =
    let k = c.in-Some-Some-2 in
    let row = row_of r c.args.chunk.now.columns in
    let there = value_at (slice_get k.column.now.values r) in
    compares_swapped c.args.operator (meaning c.args.left.now row n) (meaning c.args.right.now row n)
    ∙ ap (λ x. compares (swapped c.args.operator) x (meaning c.args.left.now row n)) (k.ensures' r n)
    ∙ ap (compares (swapped c.args.operator) there) (k.ensures row n)
    ∙ ap (λ o. compares o there (Some (value_of k.value))) (sym c.swapped.ensures)
