use Rattle.std.proofs.Common.{ap, ◌∙◌}
use Rattle.vortex_prune.proofs.Honesty.ZoneLemmas.{chunk_alike}
use Rattle.vortex_zone_map.specs.Zone.{ZoneData, fits_zone}
use Rattle.vortex_prune.proofs.part.chunk_fits.Goals as goal

pub returns-clause-value : goal.returns-clause-value
returns-clause-value c = c.sets_fit.ensures ∙ ap (λ (z : ZoneData). fits_zone c.scope.result.now z.stats) c.new.ensures ∙ ap (λ ns. fits_zone ns c.args.stats.now) c.scope.ensures.value ∙ chunk_alike c.args.chunk.now c.args.stats.now c.scope.ensures.is_chunk
