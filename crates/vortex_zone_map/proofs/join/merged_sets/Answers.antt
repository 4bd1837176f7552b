use Rattle.std.proofs.Common.{◌≡◌, ◌<◌, ◌+◌, ap, arith, length, sym, ◌∙◌}
use Rattle.std.proofs.lemmas.Iterator.Adapters.{YieldsList-from_vec}
use Rattle.std.proofs.lemmas.Iterator.Consumers.{YieldsList-turn}
use Rattle.std.proofs.lemmas.List.{length_push}
use Rattle.vortex_zone_map.proofs.JoinLemmas.{as_long, one_more_merged, set_fits}
use Rattle.vortex_zone_map.proofs.join.merged_sets.Goals as goal

pub merge_ordered-requires-clause-left_fits : goal.merge_ordered-requires-clause-left_fits
merge_ordered-requires-clause-left_fits c =
    let t = YieldsList-turn (YieldsList-from_vec c.args.left.items c.into_iter-set-iterator.ensures.into_iter_gives.0 (c.into_iter-set-iterator.ensures.into_iter_gives.1 ∙ c.args.left.ok.0)) c.loop-set.yielded c.loop-set.set-iterator c.loop-set.yielded_by c.next.result c.next.new.self c.in-Some.set c.in-Some.is c.next.ensures.steps in
    let place : c.len-place.result ≡ length c.loop-set.yielded = c.len-place.ensures ∙ c.loop-set.sets.ok.0 ∙ c.loop-set.invariant.long in
    set_fits c.args.columns.now c.args.left.items c.len-place.result (length c.loop-set.yielded) c.index-columns-place.result c.in-Some.set c.requires.left_fits place t.0 c.index-columns-place.is t.1

pub merge_ordered-requires-clause-other_fits : goal.merge_ordered-requires-clause-other_fits
merge_ordered-requires-clause-other_fits c =
    let t = YieldsList-turn (YieldsList-from_vec c.args.left.items c.into_iter-set-iterator.ensures.into_iter_gives.0 (c.into_iter-set-iterator.ensures.into_iter_gives.1 ∙ c.args.left.ok.0)) c.loop-set.yielded c.loop-set.set-iterator c.loop-set.yielded_by c.next.result c.next.new.self c.in-Some.set c.in-Some.is c.next.ensures.steps in
    let place : c.len-place.result ≡ length c.loop-set.yielded = c.len-place.ensures ∙ c.loop-set.sets.ok.0 ∙ c.loop-set.invariant.long in
    let long = as_long c.args.columns.now c.args.left.items c.args.right.now c.requires.left_fits c.requires.right_fits in
    let within : c.len-place.result < length c.args.right.now = omega (arith, place, long, t.0) in
    set_fits c.args.columns.now c.args.right.now c.len-place.result c.len-place.result c.index-columns-place.result c.index-right-place.result c.requires.right_fits (omega arith) within c.index-columns-place.is c.index-right-place.is

pub loop-set-preserved : goal.loop-set-preserved
loop-set-preserved c =
    let t = YieldsList-turn (YieldsList-from_vec c.args.left.items c.into_iter-set-iterator.ensures.into_iter_gives.0 (c.into_iter-set-iterator.ensures.into_iter_gives.1 ∙ c.args.left.ok.0)) c.loop-set.yielded c.loop-set.set-iterator c.loop-set.yielded_by c.next.result c.next.new.self c.in-Some.set c.in-Some.is c.next.ensures.steps in
    let place : c.len-place.result ≡ length c.loop-set.yielded = c.len-place.ensures ∙ c.loop-set.sets.ok.0 ∙ c.loop-set.invariant.long in
    let long = as_long c.args.columns.now c.args.left.items c.args.right.now c.requires.left_fits c.requires.right_fits in
    record {
      long = ap length c.in_ok-push-in-Ok.ensures.items ∙ length_push c.loop-set.sets.items c.in-Ok.merged ∙ ap (λ k. k + 1) c.loop-set.invariant.long ∙ sym (length_push c.loop-set.yielded c.in-Some.set);
      merged =
          one_more_merged c.args.left.items c.args.right.now c.loop-set.yielded c.in-Some.set c.index-right-place.result c.in-Ok.merged c.len-place.result c.loop-set.sets.items c.push.new.self.items _ place t.0 long t.1 c.index-right-place.is
          c.in-Ok.ensures.merged c.in_ok-push-in-Ok.ensures.items c.loop-set.invariant.merged;
    }
