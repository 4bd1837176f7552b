use Rattle.vortex_expr.specs.Trees.Tree as tree
use Rattle.vortex_expr.proofs.Meanings.PlacedTypes.{makes-placed_in}
use Rattle.vortex_expr.proofs.expression.Expression.+placed_in.Goals as goal

pub returns-in_ok-right-in-Binary : goal.returns-in_ok-right-in-Binary
returns-in_ok-right-in-Binary t c =
    let l = c.in_ok-left-in-Binary.ensures in
    let r = c.in_ok-right-in-Binary.ensures in
    let o = c.in-Binary.operator in
    makes-placed_in c.args.scope.now c.args.self (tree.binary o c.in-Binary.left c.in-Binary.right)
    (tree.binary o c.in_ok-left-in-Binary.left c.in_ok-right-in-Binary.right)
    c.binary.result
    c.in-Binary.ensures
    (λ k. tree.binary o (l k) (r k))
    c.requires
    c.binary.ensures

pub returns-in_ok-upper-in-Between : goal.returns-in_ok-upper-in-Between
returns-in_ok-upper-in-Between t c =
    let x = c.in_ok-x-in-Between.ensures in
    let l = c.in_ok-lower-in-Between.ensures in
    let u = c.in_ok-upper-in-Between.ensures in
    let o = c.in-Between.options in
    makes-placed_in c.args.scope.now c.args.self (tree.between o c.in-Between.x c.in-Between.lower c.in-Between.upper)
    (tree.between o c.in_ok-x-in-Between.x c.in_ok-lower-in-Between.lower c.in_ok-upper-in-Between.upper)
    c.between.result
    c.in-Between.ensures
    (λ k. tree.between o (x k) (l k) (u k))
    c.requires
    c.between.ensures

pub returns-in_ok-placed_in-in-Not : goal.returns-in_ok-placed_in-in-Not
returns-in_ok-placed_in-in-Not t c =
    let x = c.in_ok-placed_in-in-Not.ensures in
    makes-placed_in c.args.scope.now c.args.self (tree.not c.in-Not.x)
    (tree.not c.in_ok-placed_in-in-Not.field-0)
    c.not.result
    c.in-Not.ensures
    (λ k. tree.not (x k))
    c.requires
    c.not.ensures

pub returns-in_ok-pattern-in-Like : goal.returns-in_ok-pattern-in-Like
returns-in_ok-pattern-in-Like t c =
    let x = c.in_ok-text-in-Like.ensures in
    let p = c.in_ok-pattern-in-Like.ensures in
    let o = c.in-Like.options in
    makes-placed_in c.args.scope.now c.args.self (tree.like o c.in-Like.text c.in-Like.pattern)
    (tree.like o c.in_ok-text-in-Like.text c.in_ok-pattern-in-Like.pattern)
    c.like_with.result
    c.in-Like.ensures
    (λ k. tree.like o (x k) (p k))
    c.requires
    c.like_with.ensures

pub returns-in_ok-placed_in-in-Stat : goal.returns-in_ok-placed_in-in-Stat
returns-in_ok-placed_in-in-Stat t c =
    let x = c.in_ok-placed_in-in-Stat.ensures in
    let f = c.in-Stat.aggregate in
    makes-placed_in c.args.scope.now c.args.self (tree.stat f c.in-Stat.input)
    (tree.stat f c.in_ok-placed_in-in-Stat.field-0)
    c.new_stat.result
    c.in-Stat.ensures
    (λ k. tree.stat f (x k))
    c.requires
    c.new_stat.ensures
