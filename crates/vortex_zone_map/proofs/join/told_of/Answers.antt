use Rattle.std.proofs.Common.{◌+◌, ◌++◌, ap, length, sym, ◌∙◌}
use Rattle.std.proofs.lemmas.Iterator.Adapters.{YieldsList-from_vec}
use Rattle.std.proofs.lemmas.Iterator.Consumers.{YieldsList-turn}
use Rattle.std.proofs.lemmas.List.{length_push}
use Rattle.vortex_zone_map.proofs.JoinLemmas.{next_set_told}
use Rattle.vortex_zone_map.proofs.KeptLemmas.{longer_on}
use Rattle.vortex_zone_map.specs.Kept.{said, said_in}
use Rattle.vortex_zone_map.proofs.join.told_of.Goals as goal

pub loop-set-preserved : goal.loop-set-preserved
loop-set-preserved c =
    let t = YieldsList-turn (YieldsList-from_vec c.args.sets.items c.into_iter-set-iterator.ensures.into_iter_gives.0 (c.into_iter-set-iterator.ensures.into_iter_gives.1 ∙ c.args.sets.ok.0)) c.loop-set.yielded c.loop-set.set-iterator c.loop-set.yielded_by c.next.result c.next.new.self c.in-Some.set c.in-Some.is c.next.ensures.steps in
    record {
      count = ap (λ k. k + 1) c.loop-set.invariant.count ∙ sym (length_push c.loop-set.yielded c.in-Some.set);
      kept = c.in_ok-tell_set.ensures.kept;
      longer = longer_on _ _ _ c.loop-set.invariant.longer c.in_ok-tell_set.ensures.longer;
      told =
          next_set_told (length c.args.sets.items) (said c.loop-set.var_len_values.items c.loop-set.told.items) (said c.tell_set.new.var_len_values.items c.tell_set.new.told.items) c.loop-set.yielded c.in-Some.set c.in_ok-tell_set.ensures.distinct t.0
          (c.in_ok-tell_set.ensures.told ∙ ap (λ k. said c.loop-set.var_len_values.items c.loop-set.told.items ++ said_in k c.in-Some.set) c.loop-set.invariant.count) c.loop-set.invariant.told;
    }
