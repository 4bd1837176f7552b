use Rattle.std.proofs.Common.{◌≡◌, ◌∷◌, length, sym, ◌∙◌, ap, arith}
use Rattle.vortex_expr.specs.Patterns.Like.{items, like, some_end}
use Rattle.vortex_expr.specs.Patterns.LikeSearch.{characters, stop, Mismatch}
use Rattle.vortex_expr.proofs.Patterns.LikeStops.{some_end-at_mismatch}
use Rattle.vortex_expr.proofs.like.piece.from_front.Goals as goal

pub loop-text-preserved : goal.loop-text-preserved
loop-text-preserved c =
    let is = items (characters c.args.pattern) in
    let text : characters c.loop-text.text ≡ c.in-Some.field-0-0 ∷ characters c.in-Some.rest = c.in-Some.ensures in
    let here : stop is (c.in-Some.field-0-0 ∷ characters c.in-Some.rest) ≡ Mismatch = ap (stop is) (sym text) ∙ sym c.in-Mismatch.ensures in
    let fewer = c.from_chance-text.ensures.shorter in
    let size = ap length text in
    let old = c.loop-text.invariant.shorter in
    record {
      same = c.from_chance-text.ensures.same ∙ sym (some_end-at_mismatch is c.in-Some.field-0-0 (characters c.in-Some.rest) here) ∙ ap (some_end (like is)) (sym text) ∙ c.loop-text.invariant.same;
      shorter = omega arith;
    }
