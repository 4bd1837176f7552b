use Rattle.std.proofs.Common.{◌≡◌, ◌+◌, ◌<◌, ◌^◌, drop}
use Rattle.std.specs.Prelude.{is_some, sum_by}
use Rattle.std.specs.List.{list_all}
use Rattle.vortex_parquet.specs.Stats.{or_zero}
use Rattle.vortex_parquet.proofs.stats.sum_of.Given as goal

abbrev pub invariant-loop-size : goal.invariant-loop-size
invariant-loop-size l = record {
  fits : l.sum < 2 ^ 64;
  sums : l.sum + sum_by or_zero (drop l.size-index l.sizes) ≡ sum_by or_zero l.sizes;
  told : list_all is_some (drop l.size-index l.sizes) ≡ list_all is_some l.sizes;
}
