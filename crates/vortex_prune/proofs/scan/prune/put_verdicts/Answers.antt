use Rattle.std.proofs.Common.{◌<◌, ◌≤◌, arith, length, sym, ◌∙◌}
use Rattle.std.proofs.lemmas.List.{take_all, take_more_set}
use Rattle.vortex_prune.proofs.ZoneMaps.ZoneVerdicts.{verdicts_all, verdicts_more}
use Rattle.vortex_prune.proofs.scan.prune.put_verdicts.Goals as goal

pub loop-place-preserved : goal.loop-place-preserved
loop-place-preserved c =
    let n = c.loop-place.place in
    let within : n < length c.args.skipped.now = omega arith in
    let room : n < length c.loop-place.verdicts = omega arith in
    verdicts_more n c.args.skipped.now c.args.whole.now _ _ c.marked_verdict.result c.loop-place.invariant within c.requires.same c.marked_verdict.ensures (take_more_set c.loop-place.verdicts n c.marked_verdict.result room)

pub returns : goal.returns
returns c =
    let n = c.loop-place.place in
    let all : length c.args.skipped.now ≤ n = omega arith in
    let end : length c.loop-place.verdicts ≤ n = omega arith in
    sym (take_all n c.loop-place.verdicts end) ∙ c.loop-place.invariant ∙ verdicts_all n c.args.skipped.now c.args.whole.now all c.requires.same
