use Rattle.std.proofs.Common.{◌≡◌, ◌∷◌, [], sym, ◌∙◌, ap, arith}
use Rattle.vortex_expr.specs.Patterns.Like.{items, like, some_end}
use Rattle.vortex_expr.specs.Patterns.LikeSearch.{characters, stop, Mismatch}
use Rattle.vortex_expr.proofs.Patterns.LikeStops.{some_end-at_run, some_end-at_whole, some_end-at_mismatch, some_end-at_end, length-at_run}
use Rattle.vortex_expr.proofs.like.is_match_at_some_end.Goals as goal

pub returns-in-Whole : goal.returns-in-Whole
returns-in-Whole c =
    sym (some_end-at_whole (items (characters c.loop-next.pattern)) (characters c.loop-next.text) (sym c.in-Whole.ensures)) ∙ c.loop-next.invariant

pub loop-next-smaller-in-BeforeRun : goal.loop-next-smaller-in-BeforeRun
loop-next-smaller-in-BeforeRun c =
    let w =
    length-at_run (items (characters c.loop-next.pattern)) (items (characters c.in-BeforeRun.next)) (characters c.loop-next.text) (characters c.in-BeforeRun.rest)
    (sym c.in-BeforeRun.ensures) in
    let s = c.from_chance-text.ensures.shorter in
    omega arith

pub loop-next-preserved-in-BeforeRun : goal.loop-next-preserved-in-BeforeRun
loop-next-preserved-in-BeforeRun c =
    c.from_chance-text.ensures.same ∙ sym
    (some_end-at_run (items (characters c.loop-next.pattern)) (items (characters c.in-BeforeRun.next)) (characters c.loop-next.text) (characters c.in-BeforeRun.rest)
    (sym c.in-BeforeRun.ensures)) ∙ c.loop-next.invariant

pub loop-next-preserved-then-steps-patience : goal.loop-next-preserved-then-steps-patience
loop-next-preserved-then-steps-patience c =
    let is = items (characters c.loop-next.pattern) in
    let text : characters c.loop-next.text ≡ c.in-Some.field-0-0 ∷ characters c.in-Some.rest = c.in-Some.ensures in
    let here : stop is (c.in-Some.field-0-0 ∷ characters c.in-Some.rest) ≡ Mismatch = ap (stop is) (sym text) ∙ sym c.in-Mismatch.ensures in
    c.from_piece-text.ensures.same ∙ sym (some_end-at_mismatch is c.in-Some.field-0-0 (characters c.in-Some.rest) here) ∙ ap (some_end (like is)) (sym text) ∙ c.loop-next.invariant

pub loop-next-preserved : goal.loop-next-preserved
loop-next-preserved c =
    let is = items (characters c.loop-next.pattern) in
    let text : characters c.loop-next.text ≡ c.in-Some.field-0-0 ∷ characters c.in-Some.rest = c.in-Some.ensures in
    let here : stop is (c.in-Some.field-0-0 ∷ characters c.in-Some.rest) ≡ Mismatch = ap (stop is) (sym text) ∙ sym c.in-Mismatch.ensures in
    c.from_chance-text-else-steps-patience.ensures.same ∙ sym (some_end-at_mismatch is c.in-Some.field-0-0 (characters c.in-Some.rest) here) ∙ ap (some_end (like is)) (sym text) ∙ c.loop-next.invariant

pub returns-in-None : goal.returns-in-None
returns-in-None c =
    let is = items (characters c.loop-next.pattern) in
    let text : characters c.loop-next.text ≡ [] = c.in-None.ensures in
    let here : stop is [] ≡ Mismatch = ap (stop is) (sym text) ∙ sym c.in-Mismatch.ensures in
    sym (some_end-at_end is here) ∙ ap (some_end (like is)) (sym text) ∙ c.loop-next.invariant
