use Rattle.std.proofs.Common.{◌≡◌}
use Rattle.vortex_capi.specs.ArrowArrays.{bytes_of}
use Rattle.vortex_capi.proofs.arrow.bytes_of.Given as goal

abbrev pub invariant-loop-i : goal.invariant-loop-i
invariant-loop-i l = l.bytes.items ≡ bytes_of l.set l.clear l.bits l.from l.i
