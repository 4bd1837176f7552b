use Rattle.vortex_capi.proofs.CheckLemmas.{refused_column}
use Rattle.vortex_capi.proofs.check.checked.Goals as goal

pub returns-in-Err : goal.returns-in-Err
returns-in-Err c = λ given read. refused_column given c.args.rows c.args.zone c.args.stats.now c.in-Err.refusal (rw c.in-Err.is at read)
