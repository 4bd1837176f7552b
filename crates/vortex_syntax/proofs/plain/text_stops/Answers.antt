use Rattle.std.proofs.Common.{not, take, refl, arith, w8}
use Rattle.std.proofs.lemmas.List.{length-take-le}
use Rattle.std.proofs.lemmas.Simd.{chunk-fits, zip2_of_maps, zip2_splat, zip2_splat_left}
use lib.Bits.{bit_or}
use Rattle.vortex_syntax.proofs.StopLemmas.{below, equal, mask_of}
use Rattle.vortex_syntax.specs.Plain.{is_text_byte}
use Rattle.vortex_syntax.proofs.plain.text_stops.Goals as goal

pub returns : goal.returns
returns c =
    let text = c.args.text.now in
    let bytes = take 16 text in
    let long = length-take-le 16 text c.requires in
    let outside = zip2_of_maps bit_or _ _ bytes (zip2_splat below bytes 16 32 long) (zip2_splat_left below 126 16 bytes long) in
    let signs = zip2_of_maps bit_or _ _ bytes (zip2_splat equal bytes 16 34 long) (zip2_splat equal bytes 16 92 long) in
    mask_of _ (λ b. not (is_text_byte b)) bytes _ (omega (arith, long)) (chunk-fits w8 0 16 text c.type_inv.text) (zip2_of_maps bit_or _ _ bytes outside signs) refl
