use Rattle.std.proofs.Common.{List, ap, ap₂, ◌∙◌}
use Rattle.vortex_base.specs.Data.Columns.{ChunkData}
use Rattle.vortex_base.specs.Data.Scopes.{Named}
use Rattle.vortex_prune.proofs.Honesty.PartLiterals.{for_memory_alone}
use Rattle.vortex_prune.proofs.Honesty.ZoneLemmas.{part_is_zone}
use Rattle.vortex_prune.specs.Binding.PartBinder.{part_answer, told_answer}
use Rattle.vortex_prune.specs.Part.{PartData}
use Rattle.vortex_zone_map.specs.Zone.{ZoneData, fits_zone}
use Rattle.vortex_prune.proofs.bind.stats_binder.StatsBinderStatBinder.bind_aggregate.Goals as goal

pub told_literal-requires : goal.told_literal-requires
told_literal-requires c =
    ap₂ (λ (ns : List Named) (z : ZoneData). fits_zone ns z.stats) (c.scope.ensures.value ∙ ap (λ (k : ChunkData). k.scope) c.chunk.ensures.value) c.zone.ensures.value
    ∙ part_is_zone c.self.inside.part.now c.zone.ensures.is_part

pub returns : goal.returns
returns c =
    let f = c.args.aggregate.now in
    let x = c.args.input.now in
    let t = c.args._stat_dtype.now in
    for_memory_alone c.told_literal.result _ _ _
    (λ o h.
    h
    ∙ ap₂ (λ (ns : List Named) (z : ZoneData). told_answer ns z f x t) (c.scope.ensures.value ∙ ap (λ (k : ChunkData). k.scope) c.chunk.ensures.value) c.zone.ensures.value
    ∙ ap (λ (p : PartData). part_answer p f x t) c.self.view_is)
    (c.told_literal.ensures t)
