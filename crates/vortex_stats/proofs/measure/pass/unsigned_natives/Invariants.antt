use Rattle.std.proofs.Common.{◌≡◌, ◌*◌, ◌^◌, map, option_map, pos, ◌≤◌, take}
use Rattle.vortex_stats.specs.Measuring.Codes.{unsigned_code}
use Rattle.vortex_stats.specs.Measuring.Tallies.{IsTallyOf}
use Rattle.vortex_stats.specs.Sets.Claims.{present, sum_of}
use Rattle.vortex_stats.proofs.measure.pass.unsigned_natives.Given as goal

abbrev pub invariant-loop-i : goal.invariant-loop-i
invariant-loop-i g l = record {
  told : IsTallyOf unsigned_code l.fn.dtype l.tally (take l.i (map (option_map g.T.Native.scalar) l.natives));
  summed : pos l.sum ≡ sum_of (present (take l.i (map (option_map g.T.Native.scalar) l.natives)));
  high : l.sum ≤ 2 ^ 64 * l.i;
}
