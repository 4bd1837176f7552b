use Rattle.vortex_stats.proofs.Measuring.MeasureLemmas.{measures_of_nulls_alone}
use Rattle.vortex_stats.proofs.measure.pass.nulls.Goals as goal

pub returns : goal.returns
returns c = λ t xs. measures_of_nulls_alone t xs c.args.sum c.args.count
