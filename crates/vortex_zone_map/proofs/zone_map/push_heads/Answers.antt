use Rattle.std.proofs.Common.{arith}
use Rattle.vortex_zone_map.specs.ZoneMaps.{aggregates, head}
use Rattle.vortex_zone_map.proofs.ZoneMaps.ZoneTables.{listed_at}
use Rattle.vortex_zone_map.proofs.zone_map.push_heads.Goals as goal

pub loop-k-preserved : goal.loop-k-preserved
loop-k-preserved c = record {
  all = c.aggregates-all.ensures;
  heads = λ named there.
      let h = c.in_ok-push_head.ensures named there in
      listed_at (head c.args.source named) named.1 aggregates c.loop-k.k _ c.loop-k.heads.items _ _ (omega arith) c.aggregates-all.result c.aggregates-all.ensures h (c.loop-k.invariant.heads named there);
}
