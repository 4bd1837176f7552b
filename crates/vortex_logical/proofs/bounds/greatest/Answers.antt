use Rattle.std.proofs.Common.{◌≡◌, sym, ap, ◌∙◌, subst, ℤ}
use Rattle.std.specs.Prelude.{IfSome}
use Rattle.vortex_logical.specs.declared.comparison.Comparison.TheVariants as comparison
use Rattle.vortex_logical.specs.declared.cell_range.CellRange.{CellRange}
use Rattle.vortex_logical.specs.Meaning.{holds}
use Rattle.vortex_logical.specs.Lowering.{IsIn}
use Rattle.vortex_logical.proofs.Bounded.{greatest_same, attained_same, reached_same}
use Rattle.vortex_logical.proofs.bounds.greatest.Goals as goal

pub returns-clause-above : goal.returns-clause-above
returns-clause-above c = greatest_same c.args.logical c.args.value c.locate.result c.locate.ensures c.greatest_from.result c.greatest_from.ensures.above

pub returns-clause-attained : goal.returns-clause-attained
returns-clause-attained c = attained_same c.args.logical c.args.value c.locate.result c.args.exact c.locate.ensures c.greatest_from.result c.greatest_from.ensures.attained

inside : (r s : CellRange) (n : ℤ) → r ≡ s → IsIn s n → IsIn r n
inside r s n e h = let P : CellRange → Type 0 = λ z. IsIn z n in subst P (sym e) h

pub returns-clause-told : goal.returns-clause-told
returns-clause-told c = λ m n h k p q.
    c.greatest_from.ensures.told m n (inside c.range.result _ m c.range.ensures h) (inside c.range.result _ n c.range.ensures k) (sym (ap (holds comparison.Lte) (c.locate.ensures m h)) ∙ p) (sym (ap (holds comparison.Gte) (c.locate.ensures n k)) ∙ q)

pub returns-clause-reached : goal.returns-clause-reached
returns-clause-reached c =
    let P : CellRange → Type 0 = λ r. IfSome c.greatest_from.result (λ b. IsIn r b.number) in
    reached_same comparison.Lte c.args.logical c.args.value c.locate.result c.locate.ensures c.greatest_from.result (subst P c.range.ensures c.greatest_from.ensures.inside) c.greatest_from.ensures.reached
