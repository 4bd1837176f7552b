use Rattle.std.proofs.Common.{map, take}
use Rattle.vortex_base.specs.Data.ArrayData.{text_value}
use Rattle.vortex_stats.specs.Measuring.Codes.{bytes_code}
use Rattle.vortex_stats.specs.Measuring.Tallies.{IsTallyOf}
use Rattle.vortex_stats.proofs.measure.pass.texts.Given as goal

abbrev pub invariant-loop-i : goal.invariant-loop-i
invariant-loop-i l = IsTallyOf (λ t. bytes_code t.now) l.fn.dtype l.tally (take l.i (map text_value l.texts))
