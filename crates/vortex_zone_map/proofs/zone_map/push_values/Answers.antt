use Rattle.std.proofs.Common.{arith}
use Rattle.vortex_zone_map.specs.ZoneMaps.{aggregates, zone_value}
use Rattle.vortex_zone_map.proofs.ZoneMaps.ZoneTables.{listed_at}
use Rattle.vortex_zone_map.proofs.zone_map.push_values.Goals as goal

pub loop-k-preserved : goal.loop-k-preserved
loop-k-preserved c = record {
  all = c.aggregates-all.ensures;
  values = λ named there.
      let h = c.in_ok-push_value.ensures.value named there in
      listed_at (λ f. zone_value f c.args.source c.args.zone.now) named.1 aggregates c.loop-k.k _ c.loop-k.values.items _ _ (omega arith) c.aggregates-all.result c.aggregates-all.ensures h (c.loop-k.invariant.values named there);
}
