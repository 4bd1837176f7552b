use Rattle.std.proofs.Common.{◌∙◌, ◌<◌, ◌∷◌, [], ap, sym, arith, length, get_or, set}
use Rattle.vortex_base.proofs.Data.AppendLemmas.{as_many, can_append_at, next_as_it_was, none_appended, one_more_appended}
use Rattle.vortex_base.specs.Data.Columns.{appended, can_append}
use Rattle.vortex_base.proofs.column.append.extend_each.Goals as goal

pub loop-place-init : goal.loop-place-init
loop-place-init c = none_appended c.args.columns.now

-- the next column is as it was, of the type of the one beside it
pub extend_from-requires : goal.extend_from-requires
extend_from-requires c =
    let cs = c.args.columns.now in
    let ds = c.args.others.now in
    let i = c.loop-place.place in
    let d = c.index-columns-place.result in
    let o = c.index-others-place.result in
    let within : i < length cs = omega (arith, c.loop-place-test.true, as_many cs ds c.requires) in
    let as_it_was = ap (λ zs. get_or zs i d) (sym c.loop-place.invariant) ∙ next_as_it_was cs ds i d in
    ap (λ x. can_append (x ∷ []) (o ∷ [])) as_it_was ∙ ap (λ x. can_append (get_or cs i d ∷ []) (x ∷ [])) c.index-others-place.is ∙ can_append_at cs ds i d o c.requires within

pub loop-place-preserved : goal.loop-place-preserved
loop-place-preserved c =
    let cs = c.args.columns.now in
    let ds = c.args.others.now in
    let i = c.loop-place.place in
    let d = c.index-columns-place.result in
    let o = c.index-others-place.result in
    let within : i < length cs = omega (arith, c.loop-place-test.true, as_many cs ds c.requires) in
    let as_it_was = sym (next_as_it_was cs ds i d) ∙ ap (λ zs. get_or zs i d) c.loop-place.invariant in
    let new = ap (λ x. appended (get_or cs i d) x) (sym c.index-others-place.is) ∙ ap (λ x. appended x o) as_it_was ∙ sym c.in_default.ensures.extended in
    one_more_appended cs ds i d o within c.loop-place-test.true
    ∙ ap (λ zs. set zs i (appended (get_or cs i d) (get_or ds i o))) c.loop-place.invariant ∙ ap (λ x. set c.loop-place.columns i x) new
