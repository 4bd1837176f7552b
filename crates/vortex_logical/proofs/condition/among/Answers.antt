use Rattle.std.proofs.Common.{take, ◌++◌, ◌∷◌, [], ap, subst, sym, List, ◌∙◌}
use Rattle.std.proofs.lemmas.List.{take_all, take_more}
use Rattle.vortex_logical.specs.declared.exact.Exact.{Exact}
use Rattle.vortex_logical.specs.declared.lower.CellTest.{CellTest}
use Rattle.vortex_logical.specs.Conditions.{AreSame}
use Rattle.vortex_logical.proofs.Conditioned.{same_more, among_same}
use Rattle.vortex_logical.proofs.condition.among.Goals as goal

pub loop-literal-preserved : goal.loop-literal-preserved
loop-literal-preserved c =
    let x : Exact = c.literal-item.result in
    let i = c.loop-literal.literal-index in
    let xs = c.args.literals.now in
    let P : List Exact → Type 0 = λ ys. AreSame c.args.logical ys c.push.new.self.items in
    let Q : List CellTest → Type 0 = λ rs. AreSame c.args.logical (take i xs ++ (x ∷ [])) rs in
    subst P (sym (take_more xs i x c.loop-literal-test.true ∙ ap (λ y. take i xs ++ (y ∷ [])) (sym c.literal-item.is)))
    (subst Q (sym c.in_ok-push.ensures.items) (same_more c.args.logical _ _ x c.compare.result c.loop-literal.invariant c.compare.ensures.same))

pub returns : goal.returns
returns c = λ cell h.
    let P : List Exact → Type 0 = λ xs. AreSame c.args.logical xs c.loop-literal.tests.items in
    among_same c.args.logical c.args.literals.now c.loop-literal.tests.items (subst P (take_all c.loop-literal.literal-index c.args.literals.now c.loop-literal-test.false) c.loop-literal.invariant) cell h
