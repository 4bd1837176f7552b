use Rattle.std.proofs.Common.{◌≡◌, ◌-◌, ◌<◌, ◌^◌, ℤ, pos, negsuc, ◌+ℤ◌, ◌*ℤ◌, ◌≤ℤ◌, Some, ap, ◌∙◌, arith, w64, to_z, of_z}
use Rattle.std.proofs.lemmas.Int.{ints}
use Rattle.vortex_parquet.proofs.DecimalNumbers.{more, one_more}
use Rattle.vortex_parquet.proofs.decimals.with_byte.Goals as goal

pub returns : goal.returns
returns c =
    let small : c.args.byte < 256 = omega (arith, c.ranges.byte.fits) in
    let low : negsuc (2 ^ 55 - 1) ≤ℤ c.args.number = grind (arith, ints) in
    let high : c.args.number ≤ℤ pos (2 ^ 55 - 1) = grind (arith, ints) in
    let same : to_z w64 (of_z w64 (to_z w64 (of_z w64 (to_z w64 (of_z w64 c.args.number) *ℤ pos 256)) +ℤ to_z w64 (of_z w64 c.from.result))) ≡ more c.args.number c.args.byte = omega (arith, ints) in
    ap (λ (z : ℤ). Some z) same ∙ one_more c.args.number c.args.byte small low high
