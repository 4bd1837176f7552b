use Rattle.std.proofs.Common.{◌<◌, ◌≤◌, ap, arith, length, map, sym, ◌∙◌}
use Rattle.std.proofs.lemmas.List.{take_all, take_more_set}
use Rattle.vortex_capi.specs.Prunes.{answer_of}
use Rattle.vortex_capi.proofs.AnswerLemmas.{answers_more}
use Rattle.vortex_capi.proofs.answers.put_answers.Goals as goal

pub loop-place-preserved : goal.loop-place-preserved
loop-place-preserved c =
    let n = c.loop-place.place in
    let within : n < length c.args.verdicts.now = omega arith in
    let room : n < length c.loop-place.answers = omega arith in
    answers_more n c.args.verdicts.now _ _ _ c.answer_of.result c.loop-place.invariant within c.answer_of.ensures (take_more_set c.loop-place.answers n c.answer_of.result room)

pub returns : goal.returns
returns c =
    let n = c.loop-place.place in
    let all : length c.args.verdicts.now ≤ n = omega arith in
    let end : length c.loop-place.answers ≤ n = omega arith in
    sym (take_all n c.loop-place.answers end) ∙ c.loop-place.invariant ∙ ap (map answer_of) (take_all n c.args.verdicts.now all)
