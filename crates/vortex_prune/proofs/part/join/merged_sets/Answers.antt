use Rattle.std.proofs.Common.{◌≡◌, ◌<◌, refl, ap, length, arith}
use Rattle.vortex_prune.proofs.Honesty.PartLemmas.{stats_within}
use Rattle.vortex_zone_map.proofs.ZoneLemmas.{sets_pushed}
use Rattle.vortex_prune.proofs.part.join.merged_sets.Goals as goal

pub loop-i-preserved : goal.loop-i-preserved
loop-i-preserved c =
    let names : length c.scope.result.now ≡ length c.args.left.now.chunk.scope = rw (c.scope.ensures.value, c.chunk.ensures.value) refl in
    let within : c.loop-i.i < length c.args.left.now.chunk.scope = omega arith in
    let scopes = ap length c.requires in
    sets_pushed _ _ c.loop-i.i c.in_ok-merged_set.field-0 _ _ _ (stats_within c.args.left.now c.loop-i.i c.merged_set.ensures.left_part within)
    (stats_within c.args.right.now c.loop-i.i c.merged_set.ensures.right_part (omega arith)) c.in_ok-merged_set.ensures.merged c.in_ok-push.ensures.items c.loop-i.invariant
