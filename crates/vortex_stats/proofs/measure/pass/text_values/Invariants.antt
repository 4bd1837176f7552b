use Rattle.std.proofs.Common.{take}
use Rattle.vortex_stats.specs.Measuring.Codes.{bytes_code}
use Rattle.vortex_stats.specs.Measuring.Tallies.{IsTallyOf}
use Rattle.vortex_stats.proofs.measure.pass.text_values.Given as goal

abbrev pub invariant-loop-i : goal.invariant-loop-i
invariant-loop-i l = IsTallyOf (λ t. bytes_code t.now) l.column.dtype l.tally (take l.i l.column.values)
