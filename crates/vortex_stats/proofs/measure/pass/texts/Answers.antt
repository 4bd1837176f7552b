use Rattle.std.proofs.Common.{◌<◌, ◌≤◌, ◌∙◌, arith, length, map, refl, slice_get, sym}
use Rattle.std.proofs.lemmas.List.{length-map}
use Rattle.vortex_base.specs.Data.VarBinArray.{blob_at}
use Rattle.vortex_base.specs.Data.ArrayData.{text_value}
use Rattle.vortex_stats.specs.Measuring.Codes.{bytes_code}
use Rattle.vortex_stats.proofs.Measuring.Passes.{fits_at, no_sum, text_here, text_key, text_of_text, told_all, told_next}
use Rattle.vortex_stats.proofs.measure.pass.texts.Goals as goal

pub loop-i-init : goal.loop-i-init
loop-i-init c = c.new-tally.ensures c.args.dtype

pub loop-i-preserved : goal.loop-i-preserved
loop-i-preserved c =
    let t = c.args.dtype in
    let texts = c.args.texts.now in
    let xs = map text_value texts in
    let i = c.loop-i.i in
    let x = text_value (blob_at (slice_get texts i)) in
    let within : i < length texts = omega (arith, c.loop-i-test.true, c.len-i-end.ensures) in
    let here = text_here texts i within in
    let key = text_key t x c.get.result c.requires.texts (fits_at t xs i x c.requires.fits here) (c.get.ensures ∙ sym (text_of_text (blob_at (slice_get texts i)))) in
    told_next t xs i x here (λ b. bytes_code b.now) c.loop-i.tally c.push.new.self c.get.result c.push.ensures key c.loop-i.invariant

pub returns : goal.returns
returns c =
    let t = c.args.dtype in
    let xs = map text_value c.args.texts.now in
    let past : length xs ≤ c.loop-i.i = omega (arith, c.loop-i-test.false, c.len-i-end.ensures, length-map c.args.texts.now text_value) in
    c.measures.ensures t xs (told_all t xs c.loop-i.i past (λ b. bytes_code b.now) c.loop-i.tally c.loop-i.invariant) (no_sum t _ (rw c.requires.texts refl))
