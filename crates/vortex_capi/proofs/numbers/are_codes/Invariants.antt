use Rattle.std.proofs.Common.{◌≡◌, take}
use Rattle.std.specs.List.{list_all}
use Rattle.std.specs.Prelude.{nat_le}
use Rattle.vortex_capi.specs.MapCells.{is_code}
use Rattle.vortex_capi.proofs.numbers.are_codes.Given as goal

abbrev pub invariant-loop-code : goal.invariant-loop-code
invariant-loop-code l = nat_le l.greatest 2 ≡ list_all is_code (take l.code-index l.known)
