use Rattle.std.proofs.Common.{◌≡◌, ◌*◌, ◌^◌, pos, ◌≤◌, take}
use Rattle.vortex_stats.specs.Measuring.Codes.{unsigned_code}
use Rattle.vortex_stats.specs.Measuring.Tallies.{IsTallyOf}
use Rattle.vortex_stats.specs.Sets.Claims.{present, sum_of}
use Rattle.vortex_stats.proofs.measure.pass.unsigned_values.Given as goal

abbrev pub invariant-loop-i : goal.invariant-loop-i
invariant-loop-i l = record {
  told : IsTallyOf unsigned_code l.column.dtype l.tally (take l.i l.column.values);
  summed : pos l.sum ≡ sum_of (present (take l.i l.column.values));
  high : l.sum ≤ 2 ^ 64 * l.i;
}
