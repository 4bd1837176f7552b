use Rattle.std.specs.Prelude.{IsTrue}
use Rattle.std.proofs.Common.{◌≡◌, ◌∷◌, [], true, refl, sym, ap, subst, ◌∙◌, arith, length, length-append, Some}
use Rattle.vortex_stats.specs.Sets.Changes.{changed, changed_by}
use Rattle.vortex_stats.specs.Merging.Combined.{combined, combined_entry}
use Rattle.vortex_stats.specs.Merging.CombineSteps.{AgreeOn}
use Rattle.vortex_stats.specs.Copies.{combination_copies}
use Rattle.vortex_stats.specs.Sets.Entries.{entries_fit, value_fits, AreDistinct}
use Rattle.vortex_stats.specs.Precision.{precision_map}
use Rattle.vortex_stats.proofs.Sets.Fitting.{front_fits, rest_fits, entry_value-fits}
use Rattle.vortex_stats.proofs.Merging.Combining.{combined-step, combined_entry-fits}
use Rattle.vortex_stats.proofs.Merging.CombinedChanges.{changed_by-last, agree_with_itself, agree_after, combined-by_change}
use Rattle.vortex_stats.proofs.Copied.{copies_later}
use Rattle.vortex_stats.proofs.Sets.SlotLemmas.{length-distinct}
use Rattle.vortex_stats.proofs.stats_set.StatsSet.combine_sets.Goals as goal

pub loop-entry-init : goal.loop-entry-init
loop-entry-init c =
    let entries = c.into_iter-entry-iterator.ensures.into_iter_gives ∙ c.iter-entry-items.ensures.entries in
    rw (c.new-changes.ensures.items, c.new-changes.ensures.capacity, entries)
    (record {
      unchanged = refl;
      same = refl;
      copies = λ h. h;
      agree = agree_with_itself c.args.other.now c.args.self.now;
      distinct = c.iter-entry-items.ensures.distinct;
      room = omega (arith, length-distinct c.args.other.now c.iter-entry-items.ensures.distinct);
      inline = refl;
      left_fits = c.requires.left_fits;
      work_fits = c.requires.left_fits;
      rest_fits = c.requires.other_fits;
    })

pub entry_change-requires-clause-left_fits : goal.entry_change-requires-clause-left_fits
entry_change-requires-clause-left_fits c =
    subst (λ p. value_fits c.in-Some.entry.now.0 c.args.dtype.now p ≡ true) (sym c.find.ensures)
    (entry_value-fits c.in-Some.entry.now.0 c.args.dtype.now c.loop-entry.self c.loop-entry.invariant.left_fits)

pub loop-entry-preserved : goal.loop-entry-preserved
loop-entry-preserved c =
    let set = c.loop-entry.self in
    let work = changed_by c.loop-entry.changes.items set in
    let entry = c.in-Some.entry.now in
    let rest = c.next.new.self in
    let left = c.loop-entry.invariant in
    let agree : AgreeOn (entry ∷ rest) set work = subst (λ es. AgreeOn es set work) c.in-Some.ensures.steps left.agree in
    let apart : AreDistinct (entry ∷ rest) = subst AreDistinct c.in-Some.ensures.steps left.distinct in
    let all_fit = subst (λ es. entries_fit es c.args.dtype.now ≡ true) c.in-Some.ensures.steps left.rest_fits in
    let step : combined_entry work entry ≡ Some (changed entry.0 c.in-Ok.change work) =
    combined-by_change set work entry (precision_map (λ v. v.now) c.find.result) c.in-Ok.change c.find.ensures agree.0 c.in-Ok.ensures.change in
    let made : changed_by c.push_reserved.new.self.items set ≡ changed entry.0 c.in-Ok.change work =
    ap (λ xs. changed_by xs set) c.push_reserved.ensures.items ∙ changed_by-last c.loop-entry.changes.items (entry.0, c.in-Ok.change) set in
    rw made
    (record {
      unchanged = left.unchanged;
      same = sym (combined-step work (changed entry.0 c.in-Ok.change work) entry rest step) ∙ ap (combined work) (sym c.in-Some.ensures.steps) ∙ left.same;
      copies = λ h. left.copies (subst (λ es. IsTrue (combination_copies work es)) (sym c.in-Some.ensures.steps) (copies_later work (changed entry.0 c.in-Ok.change work) entry rest step h));
      agree = agree_after entry.0 c.in-Ok.change rest set work apart.0 agree.1;
      distinct = apart.1;
      room = omega (arith, left.room, ap length c.push_reserved.ensures.items, length-append c.loop-entry.changes.items ((entry.0, c.in-Ok.change) ∷ []), ap length c.in-Some.ensures.steps);
      inline = c.push_reserved.ensures.capacity ∙ left.inline;
      left_fits = left.left_fits;
      work_fits = combined_entry-fits c.args.dtype.now work (changed entry.0 c.in-Ok.change work) entry left.work_fits (front_fits c.args.dtype.now entry rest all_fit) step;
      rest_fits = rest_fits c.args.dtype.now entry rest all_fit;
    })
