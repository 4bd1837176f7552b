use Rattle.std.proofs.Common.{arith, true, false}
use Rattle.memchr.proofs.lemmas.CriticalLemmas.{IsCutPlace-of}
use Rattle.vortex_expr.specs.Patterns.Substring.{Precedes}
use Rattle.vortex_expr.proofs.Patterns.SubstringLemmas.{Precedes-trans, Precedes-irrefl, Precedes-opposed}
use Rattle.vortex_expr.proofs.like.substring.cut_in_two.Goals as goal

pub cut_at-requires-clause-place : goal.cut_at-requires-clause-place
cut_at-requires-clause-place c =
    let least = c.greatest_suffix-least.ensures in
    let most = c.greatest_suffix-most.ensures in
    let fits = least.fits in
    let some = least.some in
    IsCutPlace-of (Precedes true) (Precedes false) (Precedes-trans true) (Precedes-irrefl true) (Precedes-irrefl false)
    (λ a b p q. Precedes-opposed a b q p) _ _ _ _ (omega arith) least.greatest most.greatest (omega arith) _ least

pub cut_at-requires-else-least-most-clause-place : goal.cut_at-requires-else-least-most-clause-place
cut_at-requires-else-least-most-clause-place c =
    let least = c.greatest_suffix-least.ensures in
    let most = c.greatest_suffix-most.ensures in
    let fits = most.fits in
    let some = most.some in
    IsCutPlace-of (Precedes false) (Precedes true) (Precedes-trans false) (Precedes-irrefl false) (Precedes-irrefl true)
    Precedes-opposed _ _ _ _ (omega arith) most.greatest least.greatest (omega arith) _ most
