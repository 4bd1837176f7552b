use Rattle.std.proofs.Common.{refl, [], ap, ◌∙◌, ◌-◌, ◌^◌, min, List, ℕ}
use Rattle.std.specs.Str.Parse.{digits_value}
use Rattle.vortex_literals.proofs.numbers.exponent_of.Goals as goal

pub returns : goal.returns
returns c = c.appended.ensures [] refl ∙ ap (λ (z : List ℕ). min (digits_value 10 z) (2 ^ 128 - 1)) c.exponent.ensures.value
