use Rattle.std.proofs.Common.{◌≡◌, ◌*◌, ◌^◌, pos, neg_ℤ, ◌≤ℤ◌, take}
use Rattle.vortex_stats.specs.Measuring.Codes.{signed_code}
use Rattle.vortex_stats.specs.Measuring.Tallies.{IsTallyOf}
use Rattle.vortex_stats.specs.Sets.Claims.{present, sum_of}
use Rattle.vortex_stats.proofs.measure.pass.signed_values.Given as goal

abbrev pub invariant-loop-i : goal.invariant-loop-i
invariant-loop-i l = record {
  told : IsTallyOf signed_code l.column.dtype l.tally (take l.i l.column.values);
  summed : l.sum ≡ sum_of (present (take l.i l.column.values));
  low : neg_ℤ (pos (2 ^ 63 * l.i)) ≤ℤ l.sum;
  high : l.sum ≤ℤ pos (2 ^ 63 * l.i);
}
