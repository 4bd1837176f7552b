use Rattle.std.proofs.Common.{◌≡◌, ◌<◌, ◌-◌, ◌+◌, ◌++◌, ◌∷◌, [], List, None, arith, map, refl, subst, sym}
use Rattle.std.proofs.lemmas.List.{map_push}
use Rattle.vortex_parquet.specs.Stats.{Entries, group_view}
use Rattle.vortex_parquet.specs.Stretches.{AreSetsIn, paged_view}
use Rattle.vortex_parquet.proofs.Cuts.{at_start, one_more, step}
use Rattle.vortex_parquet.proofs.stretches.cut.Goals as goal

pub loop-from-init : goal.loop-from-init
loop-from-init c = record {
  within = omega arith;
  at = at_start c.args.rows (map paged_view c.args.columns.now) c.requires;
  so_far = rw c.new-stretches.ensures.items refl;
}

pub overflow_sub-end : goal.overflow_sub-end
overflow_sub-end c =
    let s = step (map paged_view c.args.columns.now) (map paged_view c.loop-from.columns) c.args.rows c.loop-from.from c.next_end-end.result c.loop-from-test.true c.loop-from.invariant.at c.next_end-end.ensures in
    omega (arith, s.above)

pub overflow_sub-end-in-loop-from : goal.overflow_sub-end-in-loop-from
overflow_sub-end-in-loop-from c =
    let s = step (map paged_view c.args.columns.now) (map paged_view c.loop-from.columns) c.args.rows c.loop-from.from c.next_end-end.result c.loop-from-test.true c.loop-from.invariant.at c.next_end-end.ensures in
    omega (arith, s.above)

pub loop-from-smaller : goal.loop-from-smaller
loop-from-smaller c =
    let s = step (map paged_view c.args.columns.now) (map paged_view c.loop-from.columns) c.args.rows c.loop-from.from c.next_end-end.result c.loop-from-test.true c.loop-from.invariant.at c.next_end-end.ensures in
    omega (arith, s.above, s.below)

pub loop-from-preserved : goal.loop-from-preserved
loop-from-preserved c =
    let cs = map paged_view c.args.columns.now in
    let from = c.loop-from.from in
    let end = c.next_end-end.result in
    let s = step cs (map paged_view c.loop-from.columns) c.args.rows from end c.loop-from-test.true c.loop-from.invariant.at c.next_end-end.ensures in
    let e : map group_view c.push.new.self.items ≡ map group_view c.loop-from.stretches.items ++ record { rows = end - from; size = None; stats = c.in_ok-stats.stats.items } ∷ [] =
    rw c.in_ok-push.ensures.items (map_push group_view c.loop-from.stretches.items (record { rows = end - from; size = None; stats = c.in_ok-stats.stats })) in
    let sets : AreSetsIn cs from (end - from) c.in_ok-stats.stats.items = subst (λ (x : List Entries). AreSetsIn cs from (end - from) x) (sym c.in_ok-stats.ensures) s.sets in
    record {
      within = s.below;
      at = rw c.advance.ensures s.next;
      so_far = rw e (one_more cs c.args.rows 0 from end (end - from) None c.in_ok-stats.stats.items (map group_view c.loop-from.stretches.items) c.loop-from.invariant.so_far (let p : 0 < end - from = omega (arith, s.above) in p) sets s.cut (let p : from + (end - from) ≡ end = omega (arith, s.above) in p));
    }
