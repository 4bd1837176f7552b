use Rattle.vortex_prune.proofs.Scanning.KeyLemmas.{native_there}
use Rattle.vortex_prune.proofs.scan.search.stays_at.Goals as goal

pub pass_all_at-requires-clause-first : goal.pass_all_at-requires-clause-first
pass_all_at-requires-clause-first g c =
    native_there g.T.Native.scalar c.args.natives.now c.args.asked.above.now.values c.args.place c.get.result c.requires.same c.get.ensures
