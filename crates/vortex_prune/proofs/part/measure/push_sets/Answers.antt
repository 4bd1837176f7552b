use Rattle.std.proofs.Common.{rules}
use Rattle.vortex_stats.specs.Stat as spec
use Rattle.vortex_prune.proofs.Honesty.MeasuredParts.{set_measured}
use Rattle.vortex_prune.proofs.part.measure.push_sets.Goals as goal

pub loop-i-preserved : goal.loop-i-preserved
unfolding spec.all_stats
loop-i-preserved c = record {
  count = search rules;
  room = search rules;
  measured =
      set_measured c.args.chunk.now.columns c.loop-i.i c.column.result.now c.in-Ok.set _ _ _ c.column.ensures c.in-Ok.ensures.measured c.push_reserved.ensures.items c.loop-i.invariant.measured;
}
