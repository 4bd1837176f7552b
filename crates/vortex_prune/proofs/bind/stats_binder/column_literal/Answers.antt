use Rattle.std.proofs.Common.{ap, ◌∙◌}
use Rattle.std.specs.Prelude.{slice_get}
use Rattle.vortex_prune.specs.Binding.PartBinder as spec
use Rattle.vortex_prune.proofs.Honesty.PartLiterals.{literal_known}
use Rattle.vortex_zone_map.proofs.ZoneLemmas.{set_fits_type, set_within}
use Rattle.vortex_prune.proofs.bind.stats_binder.column_literal.Goals as goal

pub set-set-requires : goal.set-set-requires
set-set-requires c = set_within c.args.scope.now c.args.zone.now c.args.place c.requires.fits c.requires.within

pub scalar_of-requires : goal.scalar_of-requires
scalar_of-requires c = set_fits_type c.args.scope.now c.args.zone.now c.args.place c.set-set.result.now c.dtype-dtype.result c.requires.fits c.dtype-dtype.ensures c.set-set.ensures

pub returns-in_ok-lit-in-Ok : goal.returns-in_ok-lit-in-Ok
returns-in_ok-lit-in-Ok c =
    literal_known c.args.scope.now c.args.zone.now c.args.aggregate c.args.place c.rows.result c.set-set.result.now c.dtype-dtype.result c.in-Ok.value c.in_ok-lit-in-Ok.field-0 c.dtype-dtype.ensures c.set-set.ensures c.in-Ok.ensures c.in_ok-lit-in-Ok.ensures
    ∙ ap (λ n. spec.column_literal c.args.aggregate (slice_get c.args.scope.now c.args.place) (slice_get c.args.zone.now.stats c.args.place) n) c.rows.ensures
