use Rattle.std.specs.Prelude.{IsTrue}
use Rattle.std.proofs.Common.{rules, sym, ap, subst, ◌∙◌, []}
use Rattle.vortex_stats.specs.Copies.{is_copied, set_copies}
use Rattle.vortex_stats.specs.Sets.Entries.{with_entries}
use Rattle.vortex_stats.proofs.Logic.{or_right}
use Rattle.vortex_stats.proofs.Sets.Places.{with_entries-distinct}
use Rattle.vortex_stats.proofs.stats_set.StatsSet.try_clone.Goals as goal

pub loop-entry-init : goal.loop-entry-init
loop-entry-init c =
    let entries = c.into_iter-entry-iterator.ensures.into_iter_gives ∙ c.iter-entry-items.ensures.entries in
    record {
      made =
          ap (with_entries c.into_iter-entry-iterator.result) c.new-set.ensures ∙ ap (λ es. with_entries es []) entries
          ∙ with_entries-distinct c.args.self.now c.iter-entry-items.ensures.distinct;
      copies = λ h. subst (λ es. IsTrue (set_copies es)) entries h;
    }

pub loop-entry-preserved : goal.loop-entry-preserved
loop-entry-preserved c = record {
  made = search rules;
  copies = λ h. c.loop-entry.invariant.copies (subst (λ es. IsTrue (set_copies es)) (sym c.in-Some.ensures.steps) (or_right (is_copied c.in-Some.entry.now.1) _ h));
}
