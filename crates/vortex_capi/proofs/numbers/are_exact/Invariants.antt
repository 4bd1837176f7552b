use Rattle.std.proofs.Common.{◌≡◌, take}
use Rattle.std.specs.List.{list_all}
use Rattle.vortex_capi.specs.MapCells.{is_exact}
use Rattle.vortex_capi.proofs.numbers.are_exact.Given as goal

abbrev pub invariant-loop-code : goal.invariant-loop-code
invariant-loop-code l = l.exact ≡ list_all is_exact (take l.code-index l.known)
