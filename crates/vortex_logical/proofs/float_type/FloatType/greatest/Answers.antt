use Rattle.std.proofs.Common.{sym, ◌∙◌, subst, FitsSigned, ℤ}
use Rattle.std.specs.Prelude.{◌≤ℤ◌}
use Rattle.std.specs.Int.{w64}
use Rattle.std.proofs.lemmas.Int.{to_z-of_z}
use Rattle.vortex_logical.specs.Floats.{key}
use Rattle.vortex_logical.proofs.FloatTests.{greatest_above}
use Rattle.vortex_logical.proofs.float_type.FloatType.greatest.Goals as goal

pub returns-clause-above : goal.returns-clause-above
returns-clause-above c = λ v h.
    let g : FitsSigned w64 c.key.result = record { sfits = c.key.type_inv } in
    let P : ℤ → Type 0 = λ z. key c.args.self v ≤ℤ z in
    subst P (sym c.key.ensures ∙ sym (to_z-of_z w64 _ g)) (greatest_above c.args.self v c.args.bits h)
