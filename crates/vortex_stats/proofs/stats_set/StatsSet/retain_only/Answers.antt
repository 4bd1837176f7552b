use Rattle.std.proofs.Common.{◌∷◌, [], ◌++◌, sym, ap, ◌∙◌, append_assoc}
use Rattle.std.proofs.lemmas.List.{append-nil}
use Rattle.vortex_stats.specs.Sets.Entries.{without_entry}
use Rattle.vortex_stats.proofs.Sets.Retained.{retained_so_far, retained_at_start, retained_at_end, retained_where_not}
use Rattle.vortex_stats.proofs.stats_set.StatsSet.retain_only.Goals as goal

pub loop-stat-init : goal.loop-stat-init
loop-stat-init c = record {
  kept = sym (retained_at_start c.args.stats.now c.args.self.now);
  all = c.into_iter-stat-iterator.ensures.into_iter_gives ∙ c.all-stat-items.ensures;
}

pub loop-stat-preserved-then-not-is_among : goal.loop-stat-preserved-then-not-is_among
loop-stat-preserved-then-not-is_among c = record {
  kept = c.clear.ensures ∙ ap (without_entry c.in-Some.stat) c.loop-stat.invariant.kept
      ∙ retained_where_not c.args.stats.now c.in-Some.stat c.loop-stat.yielded (sym c.is_among.ensures ∙ c.if-not-is_among.true) c.args.self.now;
  all = append_assoc c.loop-stat.yielded (c.in-Some.stat ∷ []) c.next.new.self ∙ ap (λ r. c.loop-stat.yielded ++ r) (sym c.in-Some.ensures.steps) ∙ c.loop-stat.invariant.all;
}

pub returns : goal.returns
returns c =
    let none = c.in-None.ensures.steps.0 in
    c.loop-stat.invariant.kept
    ∙ ap (λ done. retained_so_far c.args.stats.now done c.args.self.now) (sym (append-nil c.loop-stat.yielded) ∙ ap (λ r. c.loop-stat.yielded ++ r) (sym none) ∙ c.loop-stat.invariant.all)
    ∙ retained_at_end c.args.stats.now c.args.self.now
