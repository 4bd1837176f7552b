use Rattle.std.proofs.Common.{◌++◌, ◌+◌, ◌<◌, ap₂, arith, drop, length, map, ◌∙◌}
use Rattle.vortex_normal.specs.Intervals.{cut_of, interval_of, left_out}
use Rattle.vortex_normal.proofs.Sorting.{left_out_more}
use Rattle.vortex_normal.proofs.interval.push_left_out.Goals as goal

pub loop-interval-preserved : goal.loop-interval-preserved
loop-interval-preserved c =
    let set = c.args.set.now in
    let at = c.loop-interval in
    let i = at.interval-index in
    let inside : i < length set = omega arith in
    ap₂ (λ done cut. done ++ left_out cut (map interval_of (drop (i + 1) set))) c.in_ok-push_between.ensures c.higher-low.ensures
    ∙ left_out_more set i c.interval-item.result (cut_of at.low) (map interval_of at.out.items) inside c.interval-item.is
    ∙ at.invariant
