use Rattle.std.proofs.Common.{sym}
use Rattle.vortex_parquet.proofs.Sizes.{sum_done}
use Rattle.vortex_parquet.proofs.stats.sum_of.Goals as goal

pub returns : goal.returns
returns c = sym (sum_done c.args.sizes.now c.loop-size.size-index c.loop-size.sum c.loop-size-test.false c.loop-size.invariant.sums c.loop-size.invariant.told c.loop-size.invariant.fits)
