use Rattle.std.proofs.Common.{◌≡◌, ◌<◌, ◌≤◌, ◌∙◌, ap, map, option_map, slice_get, length, refl, arith, rules}
use Rattle.std.specs.Prelude.{unwrap_or}
use Rattle.std.proofs.lemmas.Int.{ints}
use Rattle.std.proofs.lemmas.List.{length-map}
use Rattle.vortex_base.specs.Data.PrimitiveArray.{native_at}
use Rattle.vortex_base.specs.declared.dtype.DType.TheVariants as dtype
use Rattle.vortex_base.specs.declared.types.Nullability.TheVariants.{Nullable}
use Rattle.vortex_base.specs.declared.types.PType.TheVariants as ptype
use Rattle.vortex_stats.specs.Measuring.Codes.{unsigned_code}
use Rattle.vortex_stats.specs.Measuring.Keys.{unsigned_number}
use Rattle.vortex_stats.specs.Measuring.Tallies.{IsOptionalKeyOf}
use Rattle.vortex_stats.proofs.Measuring.Passes.{fits_at, native_here, unsigned_key, unsigned_next, unsigned_sum_dtype, summed_all, told_all, told_next}
use Rattle.vortex_stats.proofs.measure.pass.unsigned_natives.Goals as goal

pub loop-i-init : goal.loop-i-init
loop-i-init g c = record { told = c.new-tally.ensures c.args.dtype; summed = refl; high = search rules }

pub loop-i-preserved : goal.loop-i-preserved
loop-i-preserved g c =
    let t = c.args.dtype in
    let natives = c.args.natives.now in
    let f = g.T.Native.scalar in
    let xs = map (option_map f) natives in
    let i = c.loop-i.i in
    let x = option_map f (native_at (slice_get natives i)) in
    let within : i < length natives = omega (arith, c.loop-i-test.true, c.len-i-end.ensures) in
    let here = native_here f natives i within in
    let fits = fits_at t xs i x c.requires.fits here in
    let is : c.unsigned_of_native-number.result ≡ unsigned_number x = c.unsigned_of_native-number.ensures ∙ ap (λ n. unsigned_number (option_map f n)) c.get.ensures in
    let key : IsOptionalKeyOf unsigned_code t c.unsigned_of_native-number.result x = rw is (unsigned_key t x c.requires.unsigned fits) in
    let added = unsigned_next t xs i x here c.requires.unsigned fits in
    let number : c.unwrap_or.result ≡ unwrap_or (unsigned_number x) 0 = c.unwrap_or.ensures ∙ ap (λ k. unwrap_or k 0) is in
    record {
      told = told_next t xs i x here unsigned_code c.loop-i.tally c.push.new.self c.unsigned_of_native-number.result c.push.ensures key c.loop-i.invariant.told;
      summed = omega (arith, ints);
      high = omega (arith, ints);
    }

pub returns : goal.returns
returns g c =
    let t = c.args.dtype in
    let xs = map (option_map g.T.Native.scalar) c.args.natives.now in
    let past : length xs ≤ c.loop-i.i = omega (arith, c.loop-i-test.false, c.len-i-end.ensures, length-map c.args.natives.now (option_map g.T.Native.scalar)) in
    let seen = c.loop-i.invariant in
    c.measures.ensures t xs (told_all t xs c.loop-i.i past unsigned_code c.loop-i.tally seen.told)
    (summed_all t xs c.loop-i.i past (dtype.Primitive ptype.U64 Nullable) c.unsigned_sum.result _ c.unsigned_sum.ensures seen.summed (unsigned_sum_dtype t c.requires.unsigned))
