use Rattle.std.proofs.Common.{sym, ◌∙◌, ap, ◌≡◌, FitsSigned, None, ℤ}
use Rattle.std.specs.Int.{w64, w128}
use Rattle.std.proofs.lemmas.Int.{to_z-of_z}
use Rattle.vortex_logical.specs.declared.float_test.NanMeaning.{NanMeaning}
use Rattle.vortex_logical.specs.Floats.{key, float_test, float_test_holds, float_holds}
use Rattle.vortex_logical.proofs.FloatTests.{ieee_test_is, greatest_test_is}
use Rattle.vortex_logical.proofs.float_type.FloatType.compare.Goals as goal

pub returns-in-Greatest : goal.returns-in-Greatest
returns-in-Greatest c = λ b.
    let t = c.args.self in
    let f : FitsSigned w128 c.from-number.result = record { sfits = c.from-number.type_inv } in
    let g : FitsSigned w64 c.key.result = record { sfits = c.key.type_inv } in
    let e : key t c.args.literal ≡ c.from-number.result = sym c.key.ensures ∙ sym (to_z-of_z w64 _ g) ∙ sym c.from-number.ensures in
    ap (λ (m : NanMeaning). float_holds m t c.args.comparison b c.args.literal) c.in-Greatest.is
    ∙ greatest_test_is t c.args.comparison b c.args.literal
    ∙ ap (λ (z : ℤ). float_test_holds (key t b) (float_test c.args.comparison z None)) (e ∙ sym (to_z-of_z w128 _ f))

pub returns-in-Ieee : goal.returns-in-Ieee
returns-in-Ieee c = λ b.
    let t = c.args.self in
    ap (λ (m : NanMeaning). float_holds m t c.args.comparison b c.args.literal) c.in-Ieee.is
    ∙ ieee_test_is t c.args.comparison b c.args.literal ∙ ap (float_test_holds (key t b)) (sym c.compare_ieee.ensures)
