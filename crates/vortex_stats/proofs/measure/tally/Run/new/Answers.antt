use Rattle.vortex_stats.proofs.Measuring.Runs.{first_run}
use Rattle.vortex_stats.proofs.measure.tally.Run.new.Goals as goal

pub returns : goal.returns
returns g c = λ t xs v l key none. first_run g.K.Key.code t xs c.args.key v c.args.at l none key
