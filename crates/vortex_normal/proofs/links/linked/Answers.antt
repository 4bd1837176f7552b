use Rattle.std.proofs.Common.{◌<◌, ap, arith, length, subst, ◌∙◌}
use Rattle.std.proofs.lemmas.Grind.{common_steps}
use Rattle.vortex_expr.specs.Trees.Tree.{Place, Tree, binary}
use Rattle.vortex_expr.specs.declared.scalar_fn.Operator.TheVariants.{And}
use Rattle.vortex_normal.specs.Links.{with_all}
use Rattle.vortex_normal.proofs.LinkSteps.{joins_all}
use Rattle.vortex_rewrite.specs.Answers.{Makes}
use Rattle.vortex_normal.proofs.links.linked.Goals as goal

pub returns : goal.returns
returns c =
    let q = c.args.narrowed in
    let more : 0 < length c.in_ok-found.found.items = grind (arith, common_steps, c.is_empty.ensures, c.if-is_empty.false, c.if-is_empty.ensures) in
    subst (λ (t : Tree Place). Makes t c.connect.result) (ap (binary And q) c.in_ok-joined.ensures ∙ joins_all q c.in_ok-found.found.items more ∙ ap (with_all q) c.in_ok-found.ensures) c.connect.ensures
