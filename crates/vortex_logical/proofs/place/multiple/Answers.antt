use Rattle.std.proofs.Common.{arith, ap, ◌∙◌, pos, ◌<◌, ◌*◌, ◌≡◌, ℕ}
use Rattle.std.specs.Int.{w128}
use Rattle.std.proofs.lemmas.Int.{to_z_pos}
use Rattle.vortex_logical.proofs.Placing.{multiple-short}
use Rattle.vortex_logical.proofs.place.multiple.Goals as goal

pub pow-requires : goal.pow-requires
pow-requires c = let h = multiple-short c.args.exponent 1 c.requires.digits (omega arith) in omega arith

same : (p e a b : ℕ) → p ≡ a → e ≡ b → p * e ≡ a * b
same p e a b h g = ap (λ (x : ℕ). x * e) h ∙ ap (λ (x : ℕ). a * x) g

below : (p e a b m : ℕ) → p ≡ a → e ≡ b → a * b < m → p * e < m
below p e a b m h g l = let s = same p e a b h g in omega arith

pub overflow_mul-result : goal.overflow_mul-result
overflow_mul-result c =
    let h = below _ _ _ _ _ c.pow.ensures c.from.ensures (multiple-short c.args.exponent c.args.each c.requires.digits c.requires.short) in
    record { fits = omega arith }

pub overflow_cast-result : goal.overflow_cast-result
overflow_cast-result c =
    record { sfits = below _ _ _ _ _ c.pow.ensures c.from.ensures (multiple-short c.args.exponent c.args.each c.requires.digits c.requires.short) }

pub returns : goal.returns
returns c =
    to_z_pos w128 (c.pow.result * c.from.result) (below _ _ _ _ _ c.pow.ensures c.from.ensures (multiple-short c.args.exponent c.args.each c.requires.digits c.requires.short))
    ∙ ap pos (same _ _ _ _ c.pow.ensures c.from.ensures)
