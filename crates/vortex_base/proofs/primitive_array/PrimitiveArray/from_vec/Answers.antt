use Rattle.std.proofs.Common.{ℕ, true, ap, ◌∙◌, ◌≡◌, length, replicate, arith}
use Rattle.vortex_base.proofs.Data.NativeLemmas.{optionals-all, resized}
use Rattle.vortex_base.specs.Data.PrimitiveArray.{optionals}
use Rattle.vortex_base.proofs.primitive_array.PrimitiveArray.from_vec.Goals as goal

pub returns : goal.returns
returns g c =
    let long : c.len.result ≡ length c.args.values.items = omega (arith, c.len.ensures, c.args.values.ok) in
    ap (optionals c.args.values.items)
    (c.in_ok-resize.ensures.items ∙ resized c.len.result _ true c.new-validity.ensures.items _ c.new-validity.ensures.len ∙ ap (λ (n : ℕ). replicate n true) long)
    ∙ optionals-all c.args.values.items

pub invariant_of-result : goal.invariant_of-result
invariant_of-result g c =
    omega (arith, c.in_ok-resize.ensures.len, c.len.ensures, c.new-validity.ensures.len, c.resize.new.self.ok, c.args.values.ok)
