use Rattle.std.proofs.Common.{◌≡◌, ◌*◌, ◌++◌, ◌∷◌, [], if◌then◌else◌, ap, arith, length, map, subst, sym, take, ◌∙◌}
use Rattle.std.proofs.lemmas.List.{map_push, take_more}
use Rattle.vortex_capi.specs.NamedStats.{AreMarks, either_names, names_head}
use Rattle.vortex_capi.proofs.MarkLemmas.{code_below}
use Rattle.vortex_capi.proofs.PlaceLemmas.{place_there, source_within}
use Rattle.vortex_capi.proofs.named.named_heads.Goals as goal

pub head_mark-requires : goal.head_mark-requires
head_mark-requires c =
    let scope = c.args.scope.now in
    let h = c.index-heads-place.result in
    let within = source_within scope c.args.heads.now c.loop-place.place h c.requires c.loop-place-test.true c.index-heads-place.is in
    let there = place_there h.source (length scope) _ (code_below h.aggregate) within in
    let columns : c.len.result ≡ length scope = c.len.ensures.value in
    let wide : length c.deref.result.now ≡ c.len.result * 9 = ap length c.deref.ensures.value ∙ c.in_ok-marks.ensures.wide in
    omega (arith, there, columns, wide)

pub loop-place-preserved : goal.loop-place-preserved
loop-place-preserved c =
    let f = c.args.proofs.now.falsifier in
    let t = c.args.proofs.now.satisfier in
    let hs = c.args.heads.now in
    let place = c.loop-place.place in
    let h = c.index-heads-place.result in
    let before = c.loop-place.named.items in
    let pushed : c.push.new.self.items ≡ before ++ c.head_mark.result ∷ [] = c.push.ensures.items ∙ ap (λ b. if b then before ++ c.head_mark.result ∷ [] else before) (sym c.in_ok-ok.ensures.variant) in
    let mark : c.head_mark.result ≡ names_head f t h = c.head_mark.ensures (either_names f t) (subst (AreMarks (either_names f t)) (sym c.deref.ensures.value) c.in_ok-marks.ensures.told) in
    pushed
    ∙ ap (λ l. l ++ c.head_mark.result ∷ []) c.loop-place.invariant
    ∙ ap (λ b. map (names_head f t) (take place hs) ++ b ∷ []) mark
    ∙ sym (map_push (names_head f t) (take place hs) h)
    ∙ ap (λ x. map (names_head f t) (take place hs ++ x ∷ [])) c.index-heads-place.is
    ∙ ap (map (names_head f t)) (sym (take_more hs place h c.loop-place-test.true))
