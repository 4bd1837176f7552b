use Rattle.std.proofs.Common.{◌≡◌, ◌*◌, ◌^◌, map, option_map, pos, neg_ℤ, ◌≤ℤ◌, take}
use Rattle.vortex_stats.specs.Measuring.Codes.{signed_code}
use Rattle.vortex_stats.specs.Measuring.Tallies.{IsTallyOf}
use Rattle.vortex_stats.specs.Sets.Claims.{present, sum_of}
use Rattle.vortex_stats.proofs.measure.pass.signed_natives.Given as goal

abbrev pub invariant-loop-i : goal.invariant-loop-i
invariant-loop-i g l = record {
  told : IsTallyOf signed_code l.fn.dtype l.tally (take l.i (map (option_map g.T.Native.scalar) l.natives));
  summed : l.sum ≡ sum_of (present (take l.i (map (option_map g.T.Native.scalar) l.natives)));
  low : neg_ℤ (pos (2 ^ 63 * l.i)) ≤ℤ l.sum;
  high : l.sum ≤ℤ pos (2 ^ 63 * l.i);
}
