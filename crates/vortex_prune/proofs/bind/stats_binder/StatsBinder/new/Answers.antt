use Rattle.std.proofs.Common.{refl}
use Rattle.vortex_prune.proofs.Honesty.HonestParts.{part_is_honest}
use Rattle.vortex_prune.proofs.bind.stats_binder.StatsBinder.new.Goals as goal

pub returns-clause-honest : goal.returns-clause-honest
returns-clause-honest c = λ are_true row. (refl, part_is_honest c.args.part.now c.chunk-chunk.ensures.is_part are_true)
