use Rattle.std.proofs.Common.{◌≤◌, arith, length, option_map, refl}
use Rattle.vortex_base.specs.Data.ArrayData.{value_of}
use Rattle.vortex_stats.specs.Measuring.Codes.{bytes_code}
use Rattle.vortex_stats.proofs.Measuring.Passes.{text_key, fits_at, no_sum, told_all, told_next}
use Rattle.vortex_stats.proofs.measure.pass.text_values.Goals as goal

pub loop-i-init : goal.loop-i-init
loop-i-init c = c.new-tally.ensures c.args.column.now.dtype

pub loop-i-preserved : goal.loop-i-preserved
loop-i-preserved c =
    let t = c.args.column.now.dtype in
    let xs = c.args.column.now.values in
    let i = c.loop-i.i in
    let x = option_map value_of c.get.result in
    let here = c.get.ensures in
    let key = text_key t x c.text_of.result c.requires.texts (fits_at t xs i x c.requires.fits here) c.text_of.ensures in
    told_next t xs i x here (λ b. bytes_code b.now) c.loop-i.tally c.push.new.self c.text_of.result c.push.ensures key c.loop-i.invariant

pub returns : goal.returns
returns c =
    let t = c.args.column.now.dtype in
    let xs = c.args.column.now.values in
    let past : length xs ≤ c.loop-i.i = omega (arith, c.loop-i-test.false, c.len-i-end.ensures.value) in
    c.measures.ensures t xs (told_all t xs c.loop-i.i past (λ b. bytes_code b.now) c.loop-i.tally c.loop-i.invariant) (no_sum t _ (rw c.requires.texts refl))
