use Rattle.std.proofs.Common.{refl}
use Rattle.vortex_prune.proofs.ZoneMaps.ZoneRows.{told_is_honest}
use Rattle.vortex_prune.proofs.bind.stats_binder.ZoneStatsBinder.try_new.Goals as goal

pub returns-clause-honest : goal.returns-clause-honest
returns-clause-honest c = λ part of is_true row. (refl, told_is_honest c.args.scope.now c.args.zone.now part of is_true)
