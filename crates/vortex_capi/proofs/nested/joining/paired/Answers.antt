use Rattle.std.proofs.Common.{◌≡◌, ◌∷◌, ◌++◌, sym, ap, ◌∙◌}
use Rattle.std.specs.Vec.Iter.{into_iter_items}
use Rattle.vortex_expr.specs.Trees.Connectives.{is_and}
use Rattle.vortex_capi.specs.Nesting.Halves as spec
use Rattle.vortex_capi.proofs.Nesting.Failures.{still_deep, pair_deep}
use Rattle.vortex_capi.proofs.nested.joining.paired.Goals as goal

pub returns-in-Err : goal.returns-in-Err
returns-in-Err c =
    let w = is_and c.args.connective in
    let a = c.in-Some.first in
    let b = c.in-Some-next.second in
    let more = into_iter_items c.next-in-Some.new.self in
    let items : into_iter_items c.pairs.rest ≡ a ∷ b ∷ more = c.in-Some.ensures.items ∙ ap (λ es. a ∷ es) c.in-Some-next.ensures.items in
    let whole = sym (ap (λ es. c.pairs.pairs.items ++ spec.paired w es) items) ∙ c.pairs.invariant.whole in
    still_deep _ _ c.in-Err.e c.in-Err.ensures (λ deep. pair_deep w c.args.below a b c.pairs.pairs.items (spec.paired w more) (spec.paired w c.args.items.items) whole deep)
