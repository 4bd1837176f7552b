use Rattle.std.proofs.Common.{ap, sym, subst, ◌∙◌, []}
use Rattle.std.specs.Iterator.{Yields}
use Rattle.vortex_stats.specs.Sets.Entries.{with_entry}
use Rattle.vortex_stats.proofs.Sets.Places.{with_entries-snoc}
use Rattle.vortex_stats.proofs.stats_set.StatsSet.try_from_iter.Goals as goal

pub loop-item-preserved : goal.loop-item-preserved
loop-item-preserved g c =
    c.put.ensures ∙ ap (λ es. with_entry c.in-Some.item.0 c.in-Some.item.1 es) c.loop-item.invariant ∙ sym (with_entries-snoc c.loop-item.yielded c.in-Some.item [])

pub returns : goal.returns
returns g c =
    let from_items : Yields g.I.Iterator.next_gives c.args.items c.loop-item.yielded c.loop-item.item-iterator =
    subst (λ s. Yields g.I.Iterator.next_gives s c.loop-item.yielded c.loop-item.item-iterator) c.into_iter-item-iterator.ensures.into_iter_gives c.loop-item.yielded_by in
    (c.loop-item.yielded, (c.next.new.self, (c.loop-item.item-iterator, from_items, c.in-None.ensures.steps)), c.loop-item.invariant)
