use Rattle.std.proofs.Common.{◌≡◌, ℕ, List, ◌++◌, ◌-◌, ◌^◌, min, take}
use Rattle.std.specs.Str.Parse.{digits_value}
use Rattle.vortex_literals.proofs.numbers.appended.Given as goal

abbrev pub invariant-loop-digit : goal.invariant-loop-digit
invariant-loop-digit l = (before : List ℕ) → l.fn.first ≡ min (digits_value 10 before) (2 ^ 128 - 1) → l.value ≡ min (digits_value 10 (before ++ take l.digit-index l.digits)) (2 ^ 128 - 1)
