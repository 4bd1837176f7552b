use Rattle.std.proofs.Common.{◌≡◌, ◌∙◌, sym}
use Rattle.vortex_expr.specs.Trees.Tree.{binary}
use Rattle.vortex_expr.specs.Trees.TreeEq.{tree_eq_is_exact}
use Rattle.vortex_expr.specs.declared.scalar_fn.Operator.TheVariants.{And}
use Rattle.vortex_prune.proofs.Scanning.GapLemmas.{span_of_both}
use Rattle.vortex_prune.proofs.scan.gaps.beside_span.Goals as goal

pub returns-then-eq : goal.returns-then-eq
returns-then-eq c =
    let k = c.in-Binary-And-default-default in
    let m = c.in-Binary-And-default-default-parts in
    let is : c.args.left.now ≡ binary And k.first.now k.flag.now = cc (k.ensures, k.field-0-is) in
    let so : c.args.right.now ≡ binary And m.second.now m.again.now = cc (m.ensures, m.field-0-is) in
    span_of_both c.args.chunk.now.columns c.args.left.now c.args.right.now k.first.now k.flag.now m.second.now m.again.now c.beside_ends-then-eq.result is so
    ((tree_eq_is_exact k.flag.now m.again.now).0 (sym c.eq.ensures.value ∙ c.if-eq.true)) c.beside_ends-then-eq.ensures
