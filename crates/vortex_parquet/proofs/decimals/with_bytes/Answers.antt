use Rattle.std.proofs.Common.{◌≡◌, ◌∙◌, ◌≤ℤ◌, ◌-◌, ◌^◌, ℤ, pos, negsuc, ap, arith, w64, to_z, of_z}
use Rattle.std.proofs.lemmas.Int.{ints, to_z-of_z}
use Rattle.vortex_parquet.specs.Decimals.{in_64_bits, with_bytes as with_all_bytes}
use Rattle.vortex_parquet.proofs.DecimalNumbers.{AreBytes, bytes_done, bytes_stop, it_fits}
use Rattle.vortex_parquet.proofs.decimals.with_bytes.Goals as goal

pub returns : goal.returns
returns c =
    let z : ℤ = to_z w64 c.loop-byte.number-bits in
    let first : to_z w64 (of_z w64 c.args.first) ≡ c.args.first = to_z-of_z w64 c.args.first c.ranges.first in
    let low : negsuc (2 ^ 63 - 1) ≤ℤ z = omega (arith, ints) in
    let high : z ≤ℤ pos (2 ^ 63 - 1) = omega (arith, ints) in
    it_fits z low high ∙ bytes_done c.args.bytes.now c.loop-byte.byte-index z (in_64_bits (with_all_bytes (to_z w64 (of_z w64 c.args.first)) c.args.bytes.now)) c.loop-byte-test.false c.loop-byte.invariant
    ∙ ap (λ (n : ℤ). in_64_bits (with_all_bytes n c.args.bytes.now)) first

pub returns-in_default : goal.returns-in_default
returns-in_default c =
    let z : ℤ = to_z w64 c.loop-byte.number-bits in
    let first : to_z w64 (of_z w64 c.args.first) ≡ c.args.first = to_z-of_z w64 c.args.first c.ranges.first in
    let are : AreBytes c.args.bytes.now = λ k lt. omega (arith, (c.type_inv.bytes k).fits) in
    bytes_stop c.args.bytes.now c.loop-byte.byte-index z (in_64_bits (with_all_bytes (to_z w64 (of_z w64 c.args.first)) c.args.bytes.now)) are c.loop-byte-test.true c.in_default.ensures c.loop-byte.invariant
    ∙ ap (λ (n : ℤ). in_64_bits (with_all_bytes n c.args.bytes.now)) first
