use Rattle.std.proofs.Common.{◌≡◌, ◌≤◌, ◌∙◌, ap, option_map, length, pos, refl, arith, rules}
use Rattle.std.specs.Prelude.{unwrap_or}
use Rattle.std.proofs.lemmas.Int.{ints}
use Rattle.vortex_base.specs.Data.ArrayData.{value_of}
use Rattle.vortex_base.specs.declared.dtype.DType.TheVariants as dtype
use Rattle.vortex_base.specs.declared.types.Nullability.TheVariants.{Nullable}
use Rattle.vortex_base.specs.declared.types.PType.TheVariants as ptype
use Rattle.vortex_stats.specs.Measuring.Codes.{signed_code}
use Rattle.vortex_stats.specs.Measuring.Keys.{signed_number}
use Rattle.vortex_stats.specs.Measuring.Tallies.{IsOptionalKeyOf}
use Rattle.vortex_stats.proofs.Measuring.Passes.{fits_at, signed_key, signed_next, signed_sum_dtype, summed_all, told_all, told_next}
use Rattle.vortex_stats.proofs.measure.pass.signed_values.Goals as goal

pub loop-i-init : goal.loop-i-init
loop-i-init c = record { told = c.new-tally.ensures c.args.column.now.dtype; summed = refl; low = search rules; high = search rules }

pub loop-i-preserved : goal.loop-i-preserved
loop-i-preserved c =
    let t = c.args.column.now.dtype in
    let xs = c.args.column.now.values in
    let i = c.loop-i.i in
    let x = option_map value_of c.get.result in
    let here = c.get.ensures in
    let fits = fits_at t xs i x c.requires.fits here in
    let key : IsOptionalKeyOf signed_code t c.signed_of_value-number.result x = rw c.signed_of_value-number.ensures (signed_key t x c.requires.signed fits) in
    let added = signed_next t xs i x here c.requires.signed fits in
    let number : c.unwrap_or.result ≡ unwrap_or (signed_number x) (pos 0) = c.unwrap_or.ensures ∙ ap (λ k. unwrap_or k (pos 0)) c.signed_of_value-number.ensures in
    record {
      told = told_next t xs i x here signed_code c.loop-i.tally c.push.new.self c.signed_of_value-number.result c.push.ensures key c.loop-i.invariant.told;
      summed = omega (arith, ints);
      low = omega (arith, ints);
      high = omega (arith, ints);
    }

pub returns : goal.returns
returns c =
    let t = c.args.column.now.dtype in
    let xs = c.args.column.now.values in
    let past : length xs ≤ c.loop-i.i = omega (arith, c.loop-i-test.false, c.len-i-end.ensures.value) in
    let seen = c.loop-i.invariant in
    c.measures.ensures t xs (told_all t xs c.loop-i.i past signed_code c.loop-i.tally seen.told)
    (summed_all t xs c.loop-i.i past (dtype.Primitive ptype.I64 Nullable) c.signed_sum.result _ c.signed_sum.ensures seen.summed (signed_sum_dtype t c.requires.signed))
