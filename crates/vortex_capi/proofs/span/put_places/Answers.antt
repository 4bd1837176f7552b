use Rattle.std.proofs.Common.{◌≡◌, arith, length}
use Rattle.vortex_capi.proofs.SqlCalls.AnswerLemmas.{put_all, put_next}
use Rattle.vortex_capi.proofs.span.put_places.Goals as goal

pub loop-place-preserved : goal.loop-place-preserved
loop-place-preserved c = put_next c.loop-place.place c.args.places.now c.args.spans.now c.loop-place.spans (0, 0) c.span_at.result c.loop-place.invariant c.loop-place-test.true c.requires c.span_at.ensures

pub returns : goal.returns
returns c =
    let end : c.loop-place.place ≡ length c.args.places.now = omega arith in
    put_all c.loop-place.place c.args.places.now c.args.spans.now c.loop-place.spans end c.loop-place.invariant
