use Rattle.std.proofs.Common.{refl, [], ap₂, ◌∙◌, ◌++◌, ◌-◌, ◌^◌, min, List, ℕ}
use Rattle.std.specs.Str.Parse.{digits_value}
use Rattle.vortex_literals.proofs.numbers.digits_of.Goals as goal

pub returns : goal.returns
returns c =
    let F : List ℕ → List ℕ → ℕ = λ a b. min (digits_value 10 (a ++ b)) (2 ^ 128 - 1) in
    c.appended.ensures c.whole.result.now (c.appended-first.ensures [] refl) ∙ ap₂ F c.whole.ensures.value c.fraction.ensures.value
