use Rattle.std.proofs.Common.{sym, ◌∙◌, subst, FitsSigned, ℤ}
use Rattle.std.specs.Prelude.{◌≤ℤ◌}
use Rattle.std.specs.Int.{w64}
use Rattle.std.proofs.lemmas.Int.{to_z-of_z}
use Rattle.vortex_logical.specs.Floats.{key}
use Rattle.vortex_logical.proofs.FloatTests.{least_below}
use Rattle.vortex_logical.proofs.float_type.FloatType.least.Goals as goal

pub returns-clause-below : goal.returns-clause-below
returns-clause-below c = λ v h.
    let g : FitsSigned w64 c.key.result = record { sfits = c.key.type_inv } in
    let P : ℤ → Type 0 = λ z. z ≤ℤ key c.args.self v in
    subst P (sym c.key.ensures ∙ sym (to_z-of_z w64 _ g)) (least_below c.args.self c.args.bits v h)
