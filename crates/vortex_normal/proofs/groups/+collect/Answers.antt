use Rattle.std.proofs.Common.{◌≡◌, false, true, ap, map, refl, ◌∙◌}
use Rattle.vortex_expr.specs.Trees.Tree.{binary}
use Rattle.vortex_expr.specs.declared.scalar_fn.Operator.TheVariants.{And, Or}
use Rattle.vortex_normal.specs.Groups.{collected, item_of, items_fit}
use Rattle.vortex_normal.specs.Separate.{are_of_separate}
use Rattle.vortex_normal.proofs.Fits.{both_fit}
use Rattle.vortex_normal.proofs.SeparateItems.{both_separate}
use Rattle.vortex_normal.proofs.Steps.{left_side, right_side}
use Rattle.vortex_normal.proofs.groups.+collect.Goals as goal

pub as_one-requires : goal.as_one-requires
as_one-requires t c =
    let k = c.in-Binary-And-default-default in
    let l = k.left.now in
    let r = k.right.now in
    let is : c.args.e.now ≡ binary And l r = cc (k.ensures, k.field-0-is) in
    let first = c.in_ok-collect-in-Or.ensures.items ∙ ap (λ v. collected true l (map item_of v)) c.new-inner.ensures.items in
    let all = c.in_ok-collect-in-Or-2.ensures.items ∙ ap (collected true r) first in
    record {
      fit =
          ap items_fit all
          ∙ both_fit true l r (left_side c.args.e.now l r And is refl c.requires.predicate) (right_side c.args.e.now l r And is refl c.requires.predicate);
      separate = ap are_of_separate all ∙ both_separate true l r;
    }

pub as_one-requires-in-And-connective : goal.as_one-requires-in-And-connective
as_one-requires-in-And-connective t c =
    let k = c.in-Binary-Or-default-default in
    let l = k.left.now in
    let r = k.right.now in
    let is : c.args.e.now ≡ binary Or l r = cc (k.ensures, k.field-0-is) in
    let first = c.in_ok-collect-in-And-connective.ensures.items ∙ ap (λ v. collected false l (map item_of v)) c.new-inner-in-And-connective.ensures.items in
    let all = c.in_ok-collect-in-And-connective-2.ensures.items ∙ ap (collected false r) first in
    record {
      fit =
          ap items_fit all
          ∙ both_fit false l r (left_side c.args.e.now l r Or is refl c.requires.predicate) (right_side c.args.e.now l r Or is refl c.requires.predicate);
      separate = ap are_of_separate all ∙ both_separate false l r;
    }
