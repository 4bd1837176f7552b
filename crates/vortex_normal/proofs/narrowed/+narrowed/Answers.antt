use Rattle.std.proofs.Common.{◌≡◌, refl, rules}
use Rattle.vortex_expr.specs.Trees.Tree.{binary}
use Rattle.vortex_expr.specs.declared.scalar_fn.Operator.TheVariants.{Or}
use Rattle.vortex_normal.proofs.Steps.{right_side}
use Rattle.vortex_normal.proofs.narrowed.+narrowed.Goals as goal

pub chain-narrowed_by-requires-in-Binary-Or-default-default : goal.chain-narrowed_by-requires-in-Binary-Or-default-default
chain-narrowed_by-requires-in-Binary-Or-default-default t c =
    let k = c.in-Binary-Or-default-default in
    let l = k.left.now in
    let r = k.right.now in
    let is : c.args.e.now ≡ binary Or l r = cc (k.ensures, k.field-0-is) in
    (search rules, right_side c.args.e.now l r Or is refl c.requires)
