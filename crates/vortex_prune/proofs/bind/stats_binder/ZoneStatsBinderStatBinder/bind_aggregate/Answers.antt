use Rattle.std.proofs.Common.{ap, ◌∙◌}
use Rattle.vortex_prune.proofs.Honesty.PartLiterals.{for_memory_alone}
use Rattle.vortex_prune.specs.Binding.PartBinder.{told_answer}
use Rattle.vortex_zone_map.specs.Zone.{ScopedZone}
use Rattle.vortex_prune.proofs.bind.stats_binder.ZoneStatsBinderStatBinder.bind_aggregate.Goals as goal

pub returns : goal.returns
returns c =
    let f = c.args.aggregate.now in
    let x = c.args.input.now in
    let t = c.args._stat_dtype.now in
    for_memory_alone c.told_literal.result _ _ _ (λ o h. h ∙ ap (λ (b : ScopedZone). told_answer b.scope b.zone f x t) c.self.view_is) (c.told_literal.ensures t)
