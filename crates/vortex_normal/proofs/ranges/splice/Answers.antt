use Rattle.std.proofs.Common.{◌+◌, ◌-◌, ◌∙◌, ◌≡◌, ◌≤◌, ap, drop, false, length, map, refl, subst, take, true}
use Rattle.std.specs.List.Sorted.{IsPartitionPoint}
use Rattle.vortex_expr.specs.Trees.Connectives.{is_and}
use Rattle.vortex_normal.specs.Intervals.{cut_le, cut_of, interval_of}
use Rattle.vortex_normal.specs.Separate.{hull_of_all, is_separate}
use Rattle.vortex_normal.proofs.Places.{rest_separate, spliced_set}
use Rattle.vortex_normal.proofs.ranges.splice.Goals as goal

pub beginning_by-touched-requires : goal.beginning_by-touched-requires
beginning_by-touched-requires c =
    let set = c.deref-2.result.now in
    rest_separate c.ending_below-first.result _ set refl (ap (λ l. is_separate (map interval_of l)) c.deref-2.ensures.value ∙ c.requires.separate)

pub returns : goal.returns
returns c =
    let r = interval_of c.args.interval in
    let set = c.args.set.now.items in
    let first = c.ending_below-first.result in
    let touched = c.beginning_by-touched.result in
    spliced_set (is_and c.args.connective) r set c.append.new.self.items first touched c.requires.values c.requires.separate
    (subst (λ l. first ≤ length l) c.deref.ensures.value c.ending_below-first.ensures.bound)
    (subst (λ l. touched ≤ length (take (length l - first) (drop first l))) c.deref-2.ensures.value c.beginning_by-touched.ensures.bound)
    (subst (λ l. IsPartitionPoint (λ i. cut_le r.low (cut_of i.high) ≡ false) (λ i. cut_le r.low (cut_of i.high) ≡ true) l first) c.deref.ensures.value c.ending_below-first.ensures.place)
    (subst (λ l. IsPartitionPoint (λ i. cut_le (cut_of i.low) r.high ≡ true) (λ i. cut_le (cut_of i.low) r.high ≡ false) (take (length l - first) (drop first l)) touched) c.deref-2.ensures.value c.beginning_by-touched.ensures.place)
    (record {
      hull = interval_of c.hull_of_all-hull.result;
      kept = c.split_off.new.self.items;
      cut = c.truncate.new.self.items;
      put = c.push_left.new.out.items;
      over = c.in_ok-over.over.items;
      hull_is = c.hull_of_all-hull.ensures ∙ ap (λ l. hull_of_all r (map interval_of (take ((first + touched) - first) (drop first l)))) c.deref-3.ensures.value;
      kept_is = c.in_ok-over.ensures.items;
      over_is = c.in_ok-over.ensures.tail;
      cut_is = c.truncate.ensures.items;
      put_is = c.in_ok-push_left.ensures;
      new_is = c.in_ok-append.ensures.items;
    })
